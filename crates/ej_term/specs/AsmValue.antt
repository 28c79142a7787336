-- The term that a source's term stands for, where it holds no opaque token. A string is the list of its characters,
-- and of a map's equal keys the later wins.
use Rattle.std.specs.Prelude.{◌≡◌, Bool, true, not, ◌||◌, is_some, ℕ, false, List, [], ◌∷◌, map, Option, Some, option_map, option_and_then, unwrap_or}
use Rattle.std.specs.List.{list_any}
use Rattle.std.specs.Prelude as std
use Rattle.std.specs.Option.{option_zip}
use Rattle.ej_term.specs.declared.asm_term.AsmTerm.{AsmTerm, fold-AsmTerm}
use Rattle.ej_term.specs.declared.asm_term.AsmTerm.TheOpen as o
use Rattle.ej_term.specs.declared.asm_term.AsmTerm.TheOpen.{AsmTerm-F}
use Rattle.ej_term.specs.Term.{Term, Int, Atom, Reference, Fun, Pid, Map, Nil, None, Empty, tuple}
use Rattle.ej_term.specs.Digits.{string}
use Rattle.ej_term.specs.Lists.{list_onto}
use Rattle.ej_term.specs.Maps.{put_each}

-- all of them, where each is there
abbrev pub every : {X : Type 0} → List (Option X) → Option (List X)
every [] = Some []
every (std.None ∷ rest) = std.None
every (Some x ∷ rest) = option_map (◌∷◌ x) (every rest)

-- nil where a list has no tail of its own
abbrev pub ending : Option (Option Term) → Option Term
ending std.None = Some Nil
ending (Some tail) = tail

-- what a term stands for, once its parts' terms are known
abbrev pub value_step : AsmTerm-F (Option Term) → Option Term
value_step (o.Int n) = Some (Int n)
value_step (o.Atom name) = Some (Atom name)
value_step (o.Str characters) = Some (string characters)
value_step (o.List parts tail) = option_and_then (λ elements. option_map (list_onto elements) (ending tail)) (every parts)
value_step (o.Tuple parts) = option_map tuple (every parts)
value_step (o.Map pairs) = option_map (λ entries. Map (put_each Empty entries)) (every (map (λ e. option_zip e.0 e.1) pairs))
value_step (o.ExtFun owner name arity) = Some (Fun false owner name arity None)
value_step (o.Pid node number) = Some (Pid node number)
value_step (o.Ref node number) = Some (Reference node number)
value_step (o.Opaque text) = std.None

abbrev pub value : AsmTerm → Option Term
value = fold-AsmTerm (Option Term) value_step

-- there is an opaque token in a term, once it is known in which of its parts there is
abbrev pub opaque_step : AsmTerm-F Bool → Bool
opaque_step (o.List parts tail) = list_any (λ part. part) parts || unwrap_or tail false
opaque_step (o.Tuple parts) = list_any (λ part. part) parts
opaque_step (o.Map pairs) = list_any (λ (pair : Bool × Bool). pair.0 || pair.1) pairs
opaque_step (o.Opaque text) = true
opaque_step _ = false

abbrev pub has_opaque : AsmTerm → Bool
has_opaque = fold-AsmTerm Bool opaque_step

-- in a list's tail
abbrev pub tail_opaque : Option AsmTerm → Bool
tail_opaque std.None = false
tail_opaque (Some tail) = has_opaque tail

-- of a pair of key and value
abbrev pub pair_opaque : AsmTerm × AsmTerm → Bool
pair_opaque pair = has_opaque pair.0 || has_opaque pair.1

-- a term stands for a term exactly where no opaque token is in it
abbrev pub HaveValueUnlessOpaque : Type 0
HaveValueUnlessOpaque = (t : AsmTerm) → is_some (value t) ≡ not (has_opaque t)
