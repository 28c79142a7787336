use Rattle.std.proofs.Common.{◌≡◌, ◌+◌, length, drop}
use Rattle.ej_term.specs.Term.{Term}
use Rattle.term_heap.specs.Held.{terms_at}
use Rattle.term_ops.specs.Bags.{held, how_many, UpTo}
use Rattle.term_ops.proofs.bag.counts.Given as goal

abbrev pub invariant-loop-id : goal.invariant-loop-id
invariant-loop-id l = (length l.keys ≡ length l.counts.items) × UpTo l.id-index l.counts.items
    × ((term : Term) → held (terms_at l.heap l.keys) l.counts.items term + how_many (terms_at l.heap (drop l.id-index l.ids)) term ≡ how_many (terms_at l.heap l.ids) term)
