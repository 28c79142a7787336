use Rattle.term_heap.proofs.Kept.{keeps-then}
use Rattle.proc_sched.proofs.DeliveryLaw.{makes-term, message-parts}
use Rattle.proc_sched.proofs.node.Node.exit_message.Goals as goal

pub returns : goal.returns
returns c =
    let first = c.args.self.now.heap in
    let keeps = keeps-then first c.atom.new.self c.pid.new.self c.in_ok-exit.ensures.keeps c.in_ok-pid.ensures.keeps in
    makes-term c.args.self.now c.tuple.new.self c.in_ok-tuple.field-0 _ _ c.requires.is_node (keeps-then first c.pid.new.self c.tuple.new.self keeps c.in_ok-tuple.ensures.keeps) c.in_ok-tuple.ensures.term
    (message-parts first c.atom.new.self c.pid.new.self c.in_ok-exit.exit c.in_ok-pid.pid c.args.reason c.args.from c.in_ok-exit.ensures.keeps c.in_ok-pid.ensures.keeps c.in_ok-exit.ensures.term c.in_ok-pid.ensures.term c.requires.held)
