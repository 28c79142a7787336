use Rattle.std.proofs.Common.{◌≡◌, [], drop, Some}
use Rattle.term_heap.specs.View.{Keeps}
use Rattle.term_heap.specs.Held.{HoldsEach, terms_at}
use Rattle.term_heap.specs.Preorder.{evaluated}
use Rattle.term_heap.proofs.Stacking.{behind}
use Rattle.term_heap.proofs.load.add_all.Given as goal

abbrev pub invariant-loop-at : goal.invariant-loop-at
invariant-loop-at l =
    Keeps l.initial.heap l.heap × HoldsEach l.heap l.ids.items × (evaluated (behind (drop l.at l.order)) [] ≡ Some (terms_at l.heap l.ids.items))
