use Rattle.std.proofs.Common.{◌≡◌, []}
use Rattle.std.specs.Prelude.{IfNone}
use Rattle.std.specs.List.{All}
use Rattle.ej_term.specs.Order as order
use Rattle.term_heap.specs.View.{terms_in, parts_in, term_of}
use Rattle.term_heap.specs.Works.{pending_order, IsWork, weigh}
use Rattle.term_heap.proofs.Stepping.{with_next}
use Rattle.term_heap.proofs.order.compare.Given as goal

abbrev pub invariant-loop-next : goal.invariant-loop-next
invariant-loop-next l =
    (pending_order (parts_in l.heap) (terms_in l.heap) (with_next l.pending.items l.next) ≡ order.compare (term_of l.heap l.fn.a) (term_of l.heap l.fn.b))
    × All (IsWork (parts_in l.heap) (terms_in l.heap)) (with_next l.pending.items l.next)
    × IfNone l.next (l.pending.items ≡ [])

abbrev pub decreases-loop-next : goal.decreases-loop-next
decreases-loop-next l = weigh (parts_in l.heap) (terms_in l.heap) (with_next l.pending.items l.next)
