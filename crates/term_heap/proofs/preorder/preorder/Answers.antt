use Rattle.term_heap.proofs.Stacking.{behind, behind-last, taken, taken-opaque, taken-fewer}
use Rattle.term_heap.proofs.preorder.preorder.Goals as goal

pub loop-term-smaller : goal.loop-term-smaller
loop-term-smaller c = taken-fewer (behind c.pop.new.self.items) (behind c.loop-term.pending.items) (behind c.push_inner.new.pending.items) c.in-Some.term.now
    (behind-last c.loop-term.pending.items c.pop.new.self.items c.in-Some.term c.in-Some.ensures.items) c.in_ok-push_inner.ensures.parts

pub loop-term-preserved : goal.loop-term-preserved
loop-term-preserved c = (
  taken (behind c.loop-term.order.items) (behind c.push_term-in-Some.new.terms.items) (behind c.pop.new.self.items) (behind c.loop-term.pending.items) (behind c.push_inner.new.pending.items) c.in-Some.term.now _ c.loop-term.invariant.0
      (behind-last c.loop-term.pending.items c.pop.new.self.items c.in-Some.term c.in-Some.ensures.items) c.in_ok-push_inner.ensures.parts c.in_ok-push_term-2.ensures,
  taken-opaque (behind c.pop.new.self.items) (behind c.loop-term.pending.items) (behind c.push_inner.new.pending.items) c.in-Some.term.now _ c.loop-term.invariant.1
      (behind-last c.loop-term.pending.items c.pop.new.self.items c.in-Some.term c.in-Some.ensures.items) c.in_ok-push_inner.ensures.parts c.in_ok-push_inner.ensures.plain,
)
