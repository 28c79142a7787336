use Rattle.term_heap.proofs.Stacking.{behind, flat-step}
use Rattle.term_heap.proofs.preorder.push_pairs.Goals as goal

pub loop-key-preserved : goal.loop-key-preserved
loop-key-preserved c = flat-step (behind c.args.pending.now.items) (behind c.loop-key.pending.items) (behind c.push_term.new.terms.items) (behind c.push_term-in-loop-key.new.terms.items) c.args.pairs.now c.loop-key.key-index c.loop-key-item.result
    c.loop-key-test.true c.loop-key-item.is c.loop-key.invariant c.in_ok-push_term.ensures c.in_ok-push_term-2.ensures
