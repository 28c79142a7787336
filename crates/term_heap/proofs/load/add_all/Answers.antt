use Rattle.std.proofs.Common.{◌≡◌, [], ap, drop, sym, ◌∙◌, arith}
use Rattle.term_heap.specs.Held.{terms_at}
use Rattle.term_heap.specs.Preorder.{evaluated}
use Rattle.term_heap.proofs.Stacking.{behind}
use Rattle.term_heap.proofs.Rebuilding.{has-whole, next-applies, left-loaded}
use Rattle.term_heap.proofs.load.add_all.Goals as goal

pub add_behind-requires-clause-applied : goal.add_behind-requires-clause-applied
add_behind-requires-clause-applied c =
    let whole = has-whole c.args.t.now (evaluated (behind c.args.order.now) []) c.requires.plain c.requires.order in
    next-applies c.args.order.now c.loop-at.at c.index-order-at.result c.index-order-at.result (terms_at c.loop-at.heap c.loop-at.ids.items) _ c.loop-at-test.true c.loop-at.auto.at c.index-order-at.is whole.2 c.loop-at.invariant.2

pub returns-clause-loaded : goal.returns-clause-loaded
returns-clause-loaded c =
    let first : c.loop-at.at ≡ 0 = omega arith in
    left-loaded c.loop-at.heap c.args.t.now (evaluated (behind c.args.order.now) []) c.loop-at.ids.items c.pop.new.self.items c.in-Some.id c.requires.plain c.requires.order
    (ap (λ n. evaluated (behind (drop n c.args.order.now)) []) (sym first) ∙ c.loop-at.invariant.2) c.loop-at.invariant.1 c.in-Some.ensures.items
