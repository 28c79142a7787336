use Rattle.std.proofs.Common.{arith}
use Rattle.term_heap.proofs.Kept.{held}
use Rattle.proc_sched.proofs.DeliveryLaw.{one-held, broken-none, broken-within, broken-at, broken-more, broken-all, links-found}
use Rattle.proc_sched.proofs.node.Node.send_broken.Goals as goal

pub loop-at-init : goal.loop-at-init
loop-at-init c = broken-none c.args.number c.args.reason c.args.self.now c.requires.is_node

pub index-requires-in-loop-at : goal.index-requires-in-loop-at
index-requires-in-loop-at c = omega (arith, c.loop-at.self.slots.ok.0, broken-within c.args.number c.args.reason c.loop-at.at c.args.self.now c.loop-at.self c.loop-at.invariant c.requires.within)

pub index-other-requires : goal.index-other-requires
index-other-requires c =
    let slot = c.index-in-loop-at.result.now in
    omega (arith, slot.links.ok.0, broken-at c.args.number c.args.reason c.loop-at.at c.args.self.now c.loop-at.self c.loop-at.invariant c.index.result.now slot c.len-count.result c.loop-at-test.true c.len-count.ensures c.requires.within c.index.ensures c.index-in-loop-at.ensures)

pub send-requires-clause-is_node : goal.send-requires-clause-is_node
send-requires-clause-is_node c = c.loop-at.invariant.is_node

pub send-requires-clause-held : goal.send-requires-clause-held
send-requires-clause-held c = one-held c.loop-at.self.heap c.args.reason (held c.args.self.now.heap c.loop-at.self.heap c.args.reason c.loop-at.invariant.keeps c.requires.held)

pub loop-at-preserved : goal.loop-at-preserved
loop-at-preserved c =
    let slot = c.index-in-loop-at.result.now in
    broken-more c.args.number c.args.reason c.loop-at.at c.args.self.now c.loop-at.self c.loop-at.invariant c.send.new.self slot c.index-other.result.now c.requires.held c.requires.within c.index-in-loop-at.ensures
    (broken-at c.args.number c.args.reason c.loop-at.at c.args.self.now c.loop-at.self c.loop-at.invariant c.index.result.now slot c.len-count.result c.loop-at-test.true c.len-count.ensures c.requires.within c.index.ensures c.index-in-loop-at.ensures)
    c.index-other.ensures c.in_ok-send.ensures

pub returns : goal.returns
returns c =
    let was = c.index.result.now in
    broken-all c.args.number c.args.reason c.loop-at.at c.args.self.now c.loop-at.self c.loop-at.invariant
    (omega (arith, c.loop-at-test.false, c.len-count.ensures, was.links.ok.0, links-found c.args.self.now c.args.number was c.requires.within c.index.ensures))
