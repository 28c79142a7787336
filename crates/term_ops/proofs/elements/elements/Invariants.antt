use Rattle.std.proofs.Common.{◌≡◌}
use Rattle.ej_term.specs.Lists as lists
use Rattle.term_heap.specs.View.{Holds, term_of}
use Rattle.term_heap.specs.Held.{HoldsEach, terms_at}
use Rattle.term_heap.specs.Works.{weight}
use Rattle.term_ops.proofs.ElementsLists.{before}
use Rattle.term_ops.proofs.elements.elements.Given as goal

abbrev pub invariant-loop-head : goal.invariant-loop-head
invariant-loop-head l = Holds l.heap l.rest × HoldsEach l.heap l.ids.items × (before (terms_at l.heap l.ids.items) (lists.elements (term_of l.heap l.rest)) ≡ lists.elements (term_of l.heap l.fn.list))

abbrev pub decreases-loop-head : goal.decreases-loop-head
decreases-loop-head l = weight (term_of l.heap l.rest)
