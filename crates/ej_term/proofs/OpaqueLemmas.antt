-- In which kinds of source terms an opaque token is, as equations.
use Rattle.std.proofs.Common.{◌≡◌, ℕ, ℤ, Bool, true, false, ◌||◌, List, [], ◌∷◌, map, Option, None, Some, refl, sym, ap, ap₂, ◌∙◌}
use Rattle.std.specs.List.{list_any}
use Rattle.ej_term.specs.declared.asm_term.AsmTerm.{AsmTerm, fold-roll-AsmTerm}
use Rattle.ej_term.specs.declared.asm_term.AsmTerm.TheOpen as o
use Rattle.ej_term.specs.declared.asm_term.AsmTerm.TheVariants as v
use Rattle.ej_term.specs.AsmValue.{opaque_step, has_opaque, tail_opaque, pair_opaque}

-- an opaque token is in one of these
abbrev pub any_opaque : List AsmTerm → Bool
any_opaque = list_any has_opaque

-- a test of what was mapped
any-mapped : {A B : Type 0} (f : A → B) (test : B → Bool) (both : A → Bool) → ((x : A) → test (f x) ≡ both x) → (xs : List A) → list_any test (map f xs) ≡ list_any both xs
any-mapped f test both same [] = refl
any-mapped f test both same (x ∷ xs) = ap₂ ◌||◌ (same x) (any-mapped f test both same xs)

any-parts : (parts : List AsmTerm) → list_any (λ part. part) (map has_opaque parts) ≡ any_opaque parts
any-parts parts = any-mapped has_opaque (λ part. part) has_opaque (λ t. refl) parts

pub opaque-Int : (n : ℤ) → has_opaque (v.Int n) ≡ false
opaque-Int n = ap has_opaque (sym (v.rolls-Int n)) ∙ fold-roll-AsmTerm Bool opaque_step (o.Int n)

pub opaque-Atom : (name : List ℕ) → has_opaque (v.Atom name) ≡ false
opaque-Atom name = ap has_opaque (sym (v.rolls-Atom name)) ∙ fold-roll-AsmTerm Bool opaque_step (o.Atom name)

pub opaque-Str : (characters : List ℕ) → has_opaque (v.Str characters) ≡ false
opaque-Str characters = ap has_opaque (sym (v.rolls-Str characters)) ∙ fold-roll-AsmTerm Bool opaque_step (o.Str characters)

pub opaque-List : (parts : List AsmTerm) (tail : Option AsmTerm) → has_opaque (v.List parts tail) ≡ any_opaque parts || tail_opaque tail
opaque-List parts None =
    ap has_opaque (sym (v.rolls-List parts None)) ∙ fold-roll-AsmTerm Bool opaque_step (o.List parts None) ∙ ap (λ b. b || false) (any-parts parts)
opaque-List parts (Some tail) =
    ap has_opaque (sym (v.rolls-List parts (Some tail))) ∙ fold-roll-AsmTerm Bool opaque_step (o.List parts (Some tail)) ∙ ap (λ b. b || has_opaque tail) (any-parts parts)

pub opaque-Tuple : (parts : List AsmTerm) → has_opaque (v.Tuple parts) ≡ any_opaque parts
opaque-Tuple parts = ap has_opaque (sym (v.rolls-Tuple parts)) ∙ fold-roll-AsmTerm Bool opaque_step (o.Tuple parts) ∙ any-parts parts

pub opaque-Map : (pairs : List (AsmTerm × AsmTerm)) → has_opaque (v.Map pairs) ≡ list_any pair_opaque pairs
opaque-Map pairs =
    ap has_opaque (sym (v.rolls-Map pairs)) ∙ fold-roll-AsmTerm Bool opaque_step (o.Map pairs)
    ∙ any-mapped _ (λ (pair : Bool × Bool). pair.0 || pair.1) pair_opaque (λ p. refl) pairs

pub opaque-ExtFun : (owner name : List ℕ) (arity : ℕ) → has_opaque (v.ExtFun owner name arity) ≡ false
opaque-ExtFun owner name arity = ap has_opaque (sym (v.rolls-ExtFun owner name arity)) ∙ fold-roll-AsmTerm Bool opaque_step (o.ExtFun owner name arity)

pub opaque-Pid : (node number : ℕ) → has_opaque (v.Pid node number) ≡ false
opaque-Pid node number = ap has_opaque (sym (v.rolls-Pid node number)) ∙ fold-roll-AsmTerm Bool opaque_step (o.Pid node number)

pub opaque-Ref : (node number : ℕ) → has_opaque (v.Ref node number) ≡ false
opaque-Ref node number = ap has_opaque (sym (v.rolls-Ref node number)) ∙ fold-roll-AsmTerm Bool opaque_step (o.Ref node number)

pub opaque-Opaque : (text : List ℕ) → has_opaque (v.Opaque text) ≡ true
opaque-Opaque text = ap has_opaque (sym (v.rolls-Opaque text)) ∙ fold-roll-AsmTerm Bool opaque_step (o.Opaque text)

pub ruleset opaque_cases = (opaque-Int, opaque-Atom, opaque-Str, opaque-List, opaque-Tuple, opaque-Map, opaque-ExtFun, opaque-Pid, opaque-Ref, opaque-Opaque)
