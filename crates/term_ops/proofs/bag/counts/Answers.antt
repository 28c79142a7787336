use Rattle.std.proofs.Common.{◌≡◌, length, replicate, ◌∙◌, sym, rules}
use Rattle.term_heap.specs.Held.{terms_at}
use Rattle.term_ops.specs.Bags.{held, how_many}
use Rattle.term_ops.proofs.BagLemmas.{none-counted, counts-on}
use Rattle.term_ops.proofs.bag.counts.Goals as goal

pub loop-id-init : goal.loop-id-init
loop-id-init c =
    let is : c.in_ok-counts.counts.items ≡ replicate (length c.args.keys.now) 0 = search rules in
    let start = none-counted c.args.heap.now c.args.keys.now c.args.ids.now c.in_ok-counts.counts.items (length c.args.keys.now) is in
    (search rules, start.0, start.1)

pub loop-id-preserved : goal.loop-id-preserved
loop-id-preserved c = (
  c.loop-id.invariant.0 ∙ sym c.add.ensures.as_many,
  c.in_ok-add.ensures.up_to c.loop-id.id-index c.loop-id.invariant.1,
  counts-on c.args.heap.now c.args.ids.now c.loop-id.id-index _ (held (terms_at c.args.heap.now c.args.keys.now) c.loop-id.counts.items) (held (terms_at c.args.heap.now c.args.keys.now) c.add.new.counts.items)
      (how_many (terms_at c.args.heap.now c.args.ids.now)) c.loop-id-test.true c.in_ok-add.ensures.counts c.loop-id.invariant.2,
)
