use Rattle.std.proofs.Common.{◌≡◌}
use Rattle.ej_term.specs.Lists as spec
use Rattle.term_heap.specs.View.{Holds, term_of}
use Rattle.term_heap.specs.Works.{weight}
use Rattle.term_ops.proofs.lists.find_tuple.Given as goal

abbrev pub invariant-loop-head : goal.invariant-loop-head
invariant-loop-head l = Holds l.heap l.rest × (spec.find_tuple l.place (term_of l.heap l.key) (term_of l.heap l.rest) ≡ spec.find_tuple l.place (term_of l.heap l.key) (term_of l.heap l.fn.list))

abbrev pub decreases-loop-head : goal.decreases-loop-head
decreases-loop-head l = weight (term_of l.heap l.rest)
