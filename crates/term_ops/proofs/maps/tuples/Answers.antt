use Rattle.term_ops.proofs.MapsAnswers.{tuples-next}
use Rattle.term_ops.proofs.maps.tuples.Goals as goal

pub loop-key-preserved : goal.loop-key-preserved
loop-key-preserved c = tuples-next c.args.heap.now c.loop-key.heap c.tuple.new.self c.args.entries.now c.loop-key.tuples.items c.push.new.self.items c.loop-key.key-index _ c.in_ok-tuple.tuple c.loop-key-test.true
    c.requires c.loop-key.invariant.0 c.tuple.ensures.keeps c.loop-key.invariant.1 c.in_ok-push.ensures.items c.in_ok-tuple.ensures.term c.loop-key.invariant.2
