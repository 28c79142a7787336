-- The value of each kind of source term, as an equation.
use Rattle.std.proofs.Common.{◌≡◌, ℕ, ℤ, false, List, map, Option, Some, option_map, option_and_then, refl, sym, ap, ◌∙◌}
use Rattle.std.specs.Prelude as std
use Rattle.std.specs.Option.{option_zip}
use Rattle.ej_term.specs.declared.asm_term.AsmTerm.{AsmTerm, fold-roll-AsmTerm}
use Rattle.ej_term.specs.declared.asm_term.AsmTerm.TheOpen as o
use Rattle.ej_term.specs.declared.asm_term.AsmTerm.TheVariants as v
use Rattle.ej_term.specs.Term.{Term, Int, Atom, Reference, Fun, Pid, Map, None, Empty, tuple}
use Rattle.ej_term.specs.Digits.{string}
use Rattle.ej_term.specs.Lists.{list_onto}
use Rattle.ej_term.specs.Maps.{put_each}
use Rattle.ej_term.specs.AsmValue.{every, ending, value_step, value}
use Rattle.ej_term.proofs.Options.{fused}

pub value-Int : (n : ℤ) → value (v.Int n) ≡ Some (Int n)
value-Int n = ap value (sym (v.rolls-Int n)) ∙ fold-roll-AsmTerm (Option Term) value_step (o.Int n)

pub value-Atom : (name : List ℕ) → value (v.Atom name) ≡ Some (Atom name)
value-Atom name = ap value (sym (v.rolls-Atom name)) ∙ fold-roll-AsmTerm (Option Term) value_step (o.Atom name)

pub value-Str : (characters : List ℕ) → value (v.Str characters) ≡ Some (string characters)
value-Str characters = ap value (sym (v.rolls-Str characters)) ∙ fold-roll-AsmTerm (Option Term) value_step (o.Str characters)

pub value-List : (parts : List AsmTerm) (tail : Option AsmTerm) → value (v.List parts tail) ≡ option_and_then (λ elements. option_map (list_onto elements) (ending (option_map value tail))) (every (map value parts))
value-List parts std.None = ap value (sym (v.rolls-List parts std.None)) ∙ fold-roll-AsmTerm (Option Term) value_step (o.List parts std.None)
value-List parts (Some tail) = ap value (sym (v.rolls-List parts (Some tail))) ∙ fold-roll-AsmTerm (Option Term) value_step (o.List parts (Some tail))

pub value-Tuple : (parts : List AsmTerm) → value (v.Tuple parts) ≡ option_map tuple (every (map value parts))
value-Tuple parts = ap value (sym (v.rolls-Tuple parts)) ∙ fold-roll-AsmTerm (Option Term) value_step (o.Tuple parts)

-- a pair's terms
abbrev pub value_pair : AsmTerm × AsmTerm → Option (Term × Term)
value_pair pair = option_zip (value pair.0) (value pair.1)

pub value-Map : (pairs : List (AsmTerm × AsmTerm)) → value (v.Map pairs) ≡ option_map (λ entries. Map (put_each Empty entries)) (every (map value_pair pairs))
value-Map pairs = ap value (sym (v.rolls-Map pairs)) ∙ fold-roll-AsmTerm (Option Term) value_step (o.Map pairs)
    ∙ ap (λ os. option_map (λ entries. Map (put_each Empty entries)) (every os)) (fused _ _ value_pair (λ p. refl) pairs)

pub value-ExtFun : (owner name : List ℕ) (arity : ℕ) → value (v.ExtFun owner name arity) ≡ Some (Fun false owner name arity None)
value-ExtFun owner name arity = ap value (sym (v.rolls-ExtFun owner name arity)) ∙ fold-roll-AsmTerm (Option Term) value_step (o.ExtFun owner name arity)

pub value-Pid : (node number : ℕ) → value (v.Pid node number) ≡ Some (Pid node number)
value-Pid node number = ap value (sym (v.rolls-Pid node number)) ∙ fold-roll-AsmTerm (Option Term) value_step (o.Pid node number)

pub value-Ref : (node number : ℕ) → value (v.Ref node number) ≡ Some (Reference node number)
value-Ref node number = ap value (sym (v.rolls-Ref node number)) ∙ fold-roll-AsmTerm (Option Term) value_step (o.Ref node number)

pub value-Opaque : (text : List ℕ) → value (v.Opaque text) ≡ std.None
value-Opaque text = ap value (sym (v.rolls-Opaque text)) ∙ fold-roll-AsmTerm (Option Term) value_step (o.Opaque text)

pub ruleset value_cases = (value-Int, value-Atom, value-Str, value-List, value-Tuple, value-Map, value-ExtFun, value-Pid, value-Ref, value-Opaque)
