use Rattle.std.proofs.Common.{◌≡◌}
use Rattle.term_heap.specs.View.{Keeps}
use Rattle.term_heap.specs.Held.{HoldsEach}
use Rattle.term_tests.proofs.operations.load_each.Given as goal

-- what was loaded is held, and what was held before is kept
abbrev pub invariant-loop-term : goal.invariant-loop-term
invariant-loop-term l = Keeps l.initial.heap l.heap × HoldsEach l.heap l.ids.items
