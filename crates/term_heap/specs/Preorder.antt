-- A source's term as a list of the terms in it, and what such a list makes of a stack of terms, from its end to its front.
use Rattle.std.specs.Prelude.{◌≡◌, ℕ, ◌+◌, ◌-◌, true, false, List, [], ◌∷◌, ◌++◌, length, map, take, drop, nat_le, if◌then◌else◌, Option, Some, option_map, option_and_then, Result, Ok, Err}
use Rattle.std.specs.Prelude as std
use Rattle.ej_term.specs.declared.asm_term.AsmTerm.{AsmTerm, fold-AsmTerm, out-AsmTerm}
use Rattle.ej_term.specs.declared.asm_term.AsmTerm.TheOpen as o
use Rattle.ej_term.specs.declared.asm_term.AsmTerm.TheOpen.{AsmTerm-F}
use Rattle.ej_term.specs.Term.{Term, Int, Atom, Reference, Fun, Pid, Map, Nil, None, Empty, tuple}
use Rattle.ej_term.specs.Digits.{string}
use Rattle.ej_term.specs.Lists.{list_onto}
use Rattle.ej_term.specs.Maps.{put_each}
use Rattle.ej_term.specs.AsmValue.{has_opaque}
use Rattle.term_heap.specs.declared.load.LoadFault.{LoadFault}
use Rattle.term_heap.specs.declared.load.LoadFault.TheVariants as fault

-- each key and then its value
abbrev pub flat : {X : Type 0} → List (X × X) → List X
flat [] = []
flat (pair ∷ pairs) = pair.0 ∷ pair.1 ∷ flat pairs

-- what stands in twos, as pairs
abbrev pub paired : {X : Type 0} → List X → List (X × X)
paired (key ∷ value ∷ rest) = (key, value) ∷ paired rest
paired _ = []

-- the parts of a term; an improper list's tail goes first
abbrev pub parts_of_layer : {X : Type 0} → AsmTerm-F X → List X
parts_of_layer (o.List parts std.None) = parts
parts_of_layer (o.List parts (Some tail)) = tail ∷ parts
parts_of_layer (o.Tuple parts) = parts
parts_of_layer (o.Map pairs) = flat pairs
parts_of_layer _ = []

abbrev pub inner : AsmTerm → List AsmTerm
inner t = parts_of_layer (out-AsmTerm t)

-- the list of the others, and the first as its tail
abbrev pub improper : List Term → Option Term
improper [] = std.None
improper (tail ∷ elements) = Some (list_onto elements tail)

-- what a term stands for, by what its parts stand for
abbrev pub made_of_layer : {X : Type 0} → AsmTerm-F X → List Term → Option Term
made_of_layer (o.Int n) parts = Some (Int n)
made_of_layer (o.Atom name) parts = Some (Atom name)
made_of_layer (o.Str characters) parts = Some (string characters)
made_of_layer (o.List elements std.None) parts = Some (list_onto parts Nil)
made_of_layer (o.List elements (Some tail)) parts = improper parts
made_of_layer (o.Tuple elements) parts = Some (tuple parts)
made_of_layer (o.Map pairs) parts = Some (Map (put_each Empty (paired parts)))
made_of_layer (o.ExtFun owner name arity) parts = Some (Fun false owner name arity None)
made_of_layer (o.Pid node number) parts = Some (Pid node number)
made_of_layer (o.Ref node number) parts = Some (Reference node number)
made_of_layer (o.Opaque text) parts = std.None

abbrev pub made_of : AsmTerm → List Term → Option Term
made_of t parts = made_of_layer (out-AsmTerm t) parts

-- a stack, its last terms taken as the parts of a term, and what that stands for put in their place
abbrev pub applied : AsmTerm → List Term → Option (List Term)
applied t stack =
    if nat_le (length (inner t)) (length stack) then option_map (λ v. take (length stack - length (inner t)) stack ++ v ∷ []) (made_of t (drop (length stack - length (inner t)) stack)) else std.None

-- the stack after each term of the list, from its end to its front
abbrev pub evaluated : List AsmTerm → List Term → Option (List Term)
evaluated [] stack = Some stack
evaluated (t ∷ rest) stack = option_and_then (applied t) (evaluated rest stack)

abbrev pub total : List ℕ → ℕ
total [] = 0
total (n ∷ ns) = n + total ns

-- how many terms are in a term, itself among them
abbrev pub count_step : AsmTerm-F ℕ → ℕ
count_step layer = 1 + total (parts_of_layer layer)

abbrev pub count : AsmTerm → ℕ
count = fold-AsmTerm ℕ count_step

-- a list is refused as opaque where an opaque token is in the term
abbrev pub RefusesOpaque : {X : Type 0} → Result X LoadFault → AsmTerm → Type 0
RefusesOpaque (Err fault.Opaque) t = has_opaque t ≡ true
RefusesOpaque _ t = Unit {0}

abbrev pub one : Term → List Term
one t = t ∷ []
