use Rattle.term_ops.proofs.MapUpdates.{entries-next}
use Rattle.term_ops.proofs.map_update.entries_of.Goals as goal

pub loop-id-preserved : goal.loop-id-preserved
loop-id-preserved c = entries-next c.args.heap.now c.args.ids.now c.loop-id.entries.items c.push.new.self.items c.loop-id.id-index _ c.in-Some.entry _ c.loop-id-test.true c.in-Some.ensures.entry c.in-Some.ensures.held c.loop-id.invariant.0
    c.in_ok-push.ensures.items c.loop-id.invariant.1
