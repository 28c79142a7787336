use Rattle.proc_sched.proofs.NodeLaw.{puts-signal}
use Rattle.proc_sched.proofs.node.Node.put.Goals as goal

pub returns : goal.returns
returns c = puts-signal c.args.self.now c.take_queue-queue.new.self c.args.pair c.take_queue-queue.result c.push_back.new.self c.args.signal c.insert.new.self c.take_queue-queue.ensures c.in_ok-push_back.ensures.items c.in_ok-insert.ensures.updates.0
