-- Whether each kind of term holds what no instruction may, as an equation.
use Rattle.std.proofs.Common.{◌≡◌, ℕ, ℤ, Bool, true, false, List, [], ◌∷◌, map, Option, None, Some, refl, sym, ap, ◌∙◌}
use Rattle.std.specs.Prelude.{◌||◌}
use Rattle.std.specs.List.{list_any}
use Rattle.ej_term.specs.declared.asm_term.AsmTerm.{AsmTerm, fold-roll-AsmTerm}
use Rattle.ej_term.specs.declared.asm_term.AsmTerm.TheOpen as o
use Rattle.ej_term.specs.declared.asm_term.AsmTerm.TheVariants as v
use Rattle.beam_code.specs.Foreign.{itself, foreign_step, holds_foreign, pair_is_foreign, tail_is_foreign}

mapped : {X : Type 0} (f : X → Bool) (xs : List X) → list_any itself (map f xs) ≡ list_any f xs
mapped f [] = refl
mapped f (x ∷ xs) = ap (λ b. f x || b) (mapped f xs)

pairs-mapped : (ps : List (AsmTerm × AsmTerm)) → list_any (λ (p : Bool × Bool). p.0 || p.1) (map (λ p. (holds_foreign p.0, holds_foreign p.1)) ps) ≡ list_any pair_is_foreign ps
pairs-mapped [] = refl
pairs-mapped (p ∷ ps) = ap (λ b. (holds_foreign p.0 || holds_foreign p.1) || b) (pairs-mapped ps)

pub foreign-Int : (n : ℤ) → holds_foreign (v.Int n) ≡ false
foreign-Int n = ap holds_foreign (sym (v.rolls-Int n)) ∙ fold-roll-AsmTerm Bool foreign_step (o.Int n)

pub foreign-Atom : (name : List ℕ) → holds_foreign (v.Atom name) ≡ false
foreign-Atom name = ap holds_foreign (sym (v.rolls-Atom name)) ∙ fold-roll-AsmTerm Bool foreign_step (o.Atom name)

pub foreign-Str : (characters : List ℕ) → holds_foreign (v.Str characters) ≡ false
foreign-Str characters = ap holds_foreign (sym (v.rolls-Str characters)) ∙ fold-roll-AsmTerm Bool foreign_step (o.Str characters)

pub foreign-List : (parts : List AsmTerm) (tail : Option AsmTerm) → holds_foreign (v.List parts tail) ≡ list_any holds_foreign parts || tail_is_foreign tail
foreign-List parts None =
    ap holds_foreign (sym (v.rolls-List parts None)) ∙ fold-roll-AsmTerm Bool foreign_step (o.List parts None) ∙ ap (λ b. b || false) (mapped holds_foreign parts)
foreign-List parts (Some tail) =
    ap holds_foreign (sym (v.rolls-List parts (Some tail))) ∙ fold-roll-AsmTerm Bool foreign_step (o.List parts (Some tail))
    ∙ ap (λ b. b || holds_foreign tail) (mapped holds_foreign parts)

pub foreign-Tuple : (parts : List AsmTerm) → holds_foreign (v.Tuple parts) ≡ list_any holds_foreign parts
foreign-Tuple parts = ap holds_foreign (sym (v.rolls-Tuple parts)) ∙ fold-roll-AsmTerm Bool foreign_step (o.Tuple parts) ∙ mapped holds_foreign parts

pub foreign-Map : (pairs : List (AsmTerm × AsmTerm)) → holds_foreign (v.Map pairs) ≡ list_any pair_is_foreign pairs
foreign-Map pairs = ap holds_foreign (sym (v.rolls-Map pairs)) ∙ fold-roll-AsmTerm Bool foreign_step (o.Map pairs) ∙ pairs-mapped pairs

pub foreign-ExtFun : (owner name : List ℕ) (arity : ℕ) → holds_foreign (v.ExtFun owner name arity) ≡ false
foreign-ExtFun owner name arity = ap holds_foreign (sym (v.rolls-ExtFun owner name arity)) ∙ fold-roll-AsmTerm Bool foreign_step (o.ExtFun owner name arity)

pub foreign-Pid : (node number : ℕ) → holds_foreign (v.Pid node number) ≡ true
foreign-Pid node number = ap holds_foreign (sym (v.rolls-Pid node number)) ∙ fold-roll-AsmTerm Bool foreign_step (o.Pid node number)

pub foreign-Ref : (node number : ℕ) → holds_foreign (v.Ref node number) ≡ true
foreign-Ref node number = ap holds_foreign (sym (v.rolls-Ref node number)) ∙ fold-roll-AsmTerm Bool foreign_step (o.Ref node number)

pub foreign-Opaque : (spelling : List ℕ) → holds_foreign (v.Opaque spelling) ≡ true
foreign-Opaque spelling = ap holds_foreign (sym (v.rolls-Opaque spelling)) ∙ fold-roll-AsmTerm Bool foreign_step (o.Opaque spelling)

pub ruleset foreign_cases = (foreign-Int, foreign-Atom, foreign-Str, foreign-List, foreign-Tuple, foreign-Map, foreign-ExtFun, foreign-Pid, foreign-Ref, foreign-Opaque)
