use Rattle.term_heap.specs.Held.{terms_at}
use Rattle.term_ops.specs.Bags.{held}
use Rattle.term_ops.proofs.ListsWithout.{all-sifted}
use Rattle.term_ops.proofs.lists.without_each.Goals as goal

pub returns-clause-left : goal.returns-clause-left
returns-clause-left c = all-sifted c.args.heap.now c.args.parts.now c.args.others.now c.loop-part.left.items c.loop-part.part-index
    (held (terms_at c.args.heap.now c.in_ok-keys.keys.items) c.in_ok-keys.counts.items) (held (terms_at c.args.heap.now c.in_ok-keys.keys.items) c.loop-part.counts.items) c.loop-part-test.false c.loop-part.invariant.2 c.in_ok-keys.ensures.counts
