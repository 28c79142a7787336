use Rattle.std.proofs.Common.{◌-◌, ◌≤◌, length}
use Rattle.std.specs.declared.cmp.Ordering.TheVariants.{Less, Greater}
use Rattle.term_heap.specs.View.{term_of}
use Rattle.term_heap.specs.Held.{terms_at}
use Rattle.term_ops.specs.SortedPlaces.{Goes}
use Rattle.term_ops.proofs.sorted.place_of.Given as goal

abbrev pub invariant-loop-low : goal.invariant-loop-low
invariant-loop-low l = (l.low ≤ l.high) × (l.high ≤ length l.keys)
    × Goes Greater (term_of l.heap l.key) (terms_at l.heap l.keys) 0 l.low
    × Goes Less (term_of l.heap l.key) (terms_at l.heap l.keys) l.high (length l.keys)

abbrev pub decreases-loop-low : goal.decreases-loop-low
decreases-loop-low l = l.high - l.low
