use Rattle.std.proofs.Common.{◌≡◌, ◌++◌, option_map}
use Rattle.ej_term.specs.Digits as spec
use Rattle.term_heap.specs.View.{Holds, term_of}
use Rattle.term_heap.specs.Works.{weight}
use Rattle.term_ops.proofs.digits.numbers.Given as goal

abbrev pub invariant-loop-head : goal.invariant-loop-head
invariant-loop-head l = Holds l.heap l.rest × (option_map (◌++◌ l.numbers.items) (spec.characters (term_of l.heap l.rest)) ≡ spec.characters (term_of l.heap l.fn.list))

abbrev pub decreases-loop-head : goal.decreases-loop-head
decreases-loop-head l = weight (term_of l.heap l.rest)
