use Rattle.std.proofs.Common.{List, ap, sym, subst, ◌∙◌, ◌<◌, rules}
use Rattle.std.specs.List.{All}
use Rattle.ej_term.specs.Order as order
use Rattle.term_heap.specs.View.{terms_in, parts_in, term_of}
use Rattle.term_heap.specs.Works.{pending_order, IsWork, weigh}
use Rattle.term_heap.specs.declared.work.Work.{Work}
use Rattle.term_heap.proofs.Stepping.{step-ends, step-goes, step-works, step-fewer, with_next, none-left}
use Rattle.term_heap.proofs.order.compare.Goals as goal

pub loop-next-smaller : goal.loop-next-smaller
loop-next-smaller c =
    subst (λ (ws : List Work). weigh (parts_in c.args.heap.now) (terms_in c.args.heap.now) ws < weigh (parts_in c.args.heap.now) (terms_in c.args.heap.now) (with_next c.loop-next.pending.items c.loop-next.next)) c.pop-next.ensures.items
    (step-fewer (parts_in c.args.heap.now) (terms_in c.args.heap.now) c.in-Some.work c.in_ok-ordering.ordering (with_next c.loop-next.pending.items c.loop-next.next) c.loop-next.pending.items c.step.new.pending.items
    c.in_ok-ordering.ensures (ap (with_next c.loop-next.pending.items) c.in-Some.is))

pub loop-next-preserved : goal.loop-next-preserved
loop-next-preserved c = (
  ap (pending_order (parts_in c.args.heap.now) (terms_in c.args.heap.now)) (sym c.pop-next.ensures.items)
      ∙ step-goes (parts_in c.args.heap.now) (terms_in c.args.heap.now) c.in-Some.work c.in_ok-ordering.ordering (order.compare (term_of c.args.heap.now c.args.a) (term_of c.args.heap.now c.args.b))
      (with_next c.loop-next.pending.items c.loop-next.next) c.loop-next.pending.items c.step.new.pending.items c.in_ok-ordering.ensures c.loop-next.invariant.0 (ap (with_next c.loop-next.pending.items) c.in-Some.is) c.in-Equal.is,
  subst (λ (ws : List Work). All (IsWork (parts_in c.args.heap.now) (terms_in c.args.heap.now)) ws) c.pop-next.ensures.items
      (step-works (parts_in c.args.heap.now) (terms_in c.args.heap.now) c.in-Some.work c.in_ok-ordering.ordering (with_next c.loop-next.pending.items c.loop-next.next) c.loop-next.pending.items c.step.new.pending.items
      c.in_ok-ordering.ensures c.loop-next.invariant.1 (ap (with_next c.loop-next.pending.items) c.in-Some.is)),
  none-left c.pop-next.result c.pop-next.new.self.items (search rules),
)

pub returns-in_default-2 : goal.returns-in_default-2
returns-in_default-2 c = step-ends (parts_in c.args.heap.now) (terms_in c.args.heap.now) c.in-Some.work c.in_ok-ordering.ordering (order.compare (term_of c.args.heap.now c.args.a) (term_of c.args.heap.now c.args.b))
    (with_next c.loop-next.pending.items c.loop-next.next) c.loop-next.pending.items c.step.new.pending.items c.in_ok-ordering.ensures c.loop-next.invariant.0 (ap (with_next c.loop-next.pending.items) c.in-Some.is) c.in_default-2.not-Equal
