use Rattle.std.proofs.Common.{◌≡◌, ◌++◌, length, drop}
use Rattle.term_heap.specs.Held.{HoldsEach, terms_at}
use Rattle.term_ops.specs.Bags.{held, sifted}
use Rattle.term_ops.proofs.lists.without_each.Given as goal

abbrev pub invariant-loop-part : goal.invariant-loop-part
invariant-loop-part l = HoldsEach l.heap l.left.items × (length l.keys.items ≡ length l.counts.items)
    × (terms_at l.heap l.left.items ++ sifted (terms_at l.heap (drop l.part-index l.parts)) (held (terms_at l.heap l.keys.items) l.counts.items) ≡ sifted (terms_at l.heap l.parts) (held (terms_at l.heap l.keys.items) l.initial.counts.items))
