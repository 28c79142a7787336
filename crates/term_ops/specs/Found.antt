-- What a search of a list comes to.
use Rattle.std.specs.Prelude.{Bool, false, Option, Some}
use Rattle.std.specs.Prelude as std
use Rattle.ej_term.specs.Outcome.{Outcome, Value, badarg, boolean}
use Rattle.term_heap.specs.View.{Holds, term_of}
use Rattle.term_heap.specs.declared.heap.Heap.{Heap}
use Rattle.term_ops.specs.declared.lists.Found.{Found}
use Rattle.term_ops.specs.declared.lists.Found.TheVariants as f

-- a boolean, or error badarg where there is none
abbrev pub told : Option Bool → Outcome
told (Some truth) = Value (boolean truth)
told std.None = badarg

-- the element that was found, false where the list ended, and error badarg where it is none
abbrev pub outcome_of : Heap → Found → Outcome
outcome_of heap (f.Element id) = Value (term_of heap id)
outcome_of heap f.Absent = Value (boolean false)
outcome_of heap f.NoList = badarg

-- the element that was found is one of the heap
abbrev pub HoldsFound : Heap → Found → Type 0
HoldsFound heap (f.Element id) = Holds heap id
HoldsFound heap _ = Unit {0}
