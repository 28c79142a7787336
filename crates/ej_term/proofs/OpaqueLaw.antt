-- A source term stands for a term exactly where no opaque token is in it.
use Rattle.std.proofs.Common.{◌≡◌, Bool, true, false, not, ◌&&◌, ◌||◌, List, [], ◌∷◌, map, Option, Some, is_some, option_map, option_and_then, refl, sym, ap, ap₂, ◌∙◌, subst}
use Rattle.std.specs.Prelude as std
use Rattle.std.specs.List.{list_any}
use Rattle.std.specs.Option.{option_zip}
use Rattle.ej_term.specs.declared.asm_term.AsmTerm.{AsmTerm, fold-roll-AsmTerm}
use Rattle.ej_term.specs.declared.asm_term.AsmTerm.TheFolds.{ind-AsmTerm, map-AsmTerm}
use Rattle.ej_term.specs.declared.asm_term.AsmTerm.TheOpen as o
use Rattle.ej_term.specs.declared.asm_term.AsmTerm.TheOpen.{AsmTerm-F}
use Rattle.ej_term.specs.declared.asm_term.AsmTerm.TheViews.{roll-AsmTerm}
use Rattle.ej_term.specs.Term.{Term, Nil, tuple}
use Rattle.ej_term.specs.Lists.{list_onto}
use Rattle.ej_term.specs.AsmValue.{every, value_step, value, opaque_step, has_opaque, HaveValueUnlessOpaque}

abbrev Claim : AsmTerm → Type 0
Claim t = is_some (value t) ≡ not (has_opaque t)

abbrev Such : Type 0
Such = (t : AsmTerm) × Claim t

abbrev LayerClaim : AsmTerm-F AsmTerm → Type 0
LayerClaim d = is_some (value_step (map-AsmTerm AsmTerm (Option Term) value d)) ≡ not (opaque_step (map-AsmTerm AsmTerm Bool has_opaque d))

rolled : (d : AsmTerm-F AsmTerm) → LayerClaim d → Claim (roll-AsmTerm d)
rolled d claim = ap is_some (fold-roll-AsmTerm (Option Term) value_step d) ∙ claim ∙ ap not (sym (fold-roll-AsmTerm Bool opaque_step d))

mapped-some : {A B : Type 0} (f : A → B) (o : Option A) → is_some (option_map f o) ≡ is_some o
mapped-some f std.None = refl
mapped-some f (Some a) = refl

every-some : {A : Type 0} (o : Option A) (os : List (Option A)) → is_some (every (o ∷ os)) ≡ is_some o && is_some (every os)
every-some std.None os = refl
every-some (Some a) os = mapped-some (◌∷◌ a) (every os)

zipped-some : {A B : Type 0} (o : Option A) (p : Option B) → is_some (option_zip o p) ≡ is_some o && is_some p
zipped-some std.None p = refl
zipped-some (Some a) std.None = refl
zipped-some (Some a) (Some b) = refl

neither : (a b : Bool) → not a && not b ≡ not (a || b)
neither true b = refl
neither false b = refl

or-false : (a : Bool) → a ≡ a || false
or-false true = refl
or-false false = refl

parts : (ps : List Such) → is_some (every (map value (map (λ s. s.0) ps))) ≡ not (list_any (λ part. part) (map has_opaque (map (λ s. s.0) ps)))
parts [] = refl
parts (s ∷ ps) = every-some (value s.0) (map value (map (λ s. s.0) ps)) ∙ ap₂ ◌&&◌ s.1 (parts ps) ∙ neither (has_opaque s.0) (list_any (λ part. part) (map has_opaque (map (λ s. s.0) ps)))

abbrev values_of : List (Such × Such) → List (Option (Term × Term))
values_of ps = map (λ (e : Option Term × Option Term). option_zip e.0 e.1) (map (λ (p : AsmTerm × AsmTerm). (value p.0, value p.1)) (map (λ (p : Such × Such). (p.0.0, p.1.0)) ps))

abbrev flags_of : List (Such × Such) → List (Bool × Bool)
flags_of ps = map (λ (p : AsmTerm × AsmTerm). (has_opaque p.0, has_opaque p.1)) (map (λ (p : Such × Such). (p.0.0, p.1.0)) ps)

pairs : (ps : List (Such × Such)) → is_some (every (values_of ps)) ≡ not (list_any (λ (pair : Bool × Bool). pair.0 || pair.1) (flags_of ps))
pairs [] = refl
pairs (p ∷ ps) =
    every-some (option_zip (value p.0.0) (value p.1.0)) (values_of ps)
    ∙ ap₂ ◌&&◌ (zipped-some (value p.0.0) (value p.1.0) ∙ ap₂ ◌&&◌ p.0.1 p.1.1 ∙ neither (has_opaque p.0.0) (has_opaque p.1.0)) (pairs ps)
    ∙ neither (has_opaque p.0.0 || has_opaque p.1.0) (list_any (λ (pair : Bool × Bool). pair.0 || pair.1) (flags_of ps))

ended : (os : Option (List Term)) (tail : Option Term) → is_some (option_and_then (λ elements. option_map (list_onto elements) tail) os) ≡ is_some os && is_some tail
ended std.None tail = refl
ended (Some elements) tail = mapped-some (list_onto elements) tail

with-nil : (os : Option (List Term)) → is_some (option_and_then (λ elements. option_map (list_onto elements) (Some Nil)) os) ≡ is_some os
with-nil std.None = refl
with-nil (Some elements) = refl

layer : (y : AsmTerm-F Such) → LayerClaim (map-AsmTerm Such AsmTerm (λ s. s.0) y)
layer (o.Int n) = refl
layer (o.Atom name) = refl
layer (o.Str characters) = refl
layer (o.List ps std.None) = with-nil (every (map value (map (λ s. s.0) ps))) ∙ parts ps ∙ ap not (or-false (list_any (λ part. part) (map has_opaque (map (λ s. s.0) ps))))
layer (o.List ps (Some tail)) =
    ended (every (map value (map (λ s. s.0) ps))) (value tail.0) ∙ ap₂ ◌&&◌ (parts ps) tail.1
    ∙ neither (list_any (λ part. part) (map has_opaque (map (λ s. s.0) ps))) (has_opaque tail.0)
layer (o.Tuple ps) = mapped-some tuple (every (map value (map (λ s. s.0) ps))) ∙ parts ps
layer (o.Map ps) = mapped-some _ (every (values_of ps)) ∙ pairs ps
layer (o.ExtFun owner name arity) = refl
layer (o.Pid node number) = refl
layer (o.Ref node number) = refl
layer (o.Opaque spelling) = refl

pub law : HaveValueUnlessOpaque
law = ind-AsmTerm Claim (λ x y is. subst (λ z. Claim (roll-AsmTerm z)) is (rolled _ (layer y)))
