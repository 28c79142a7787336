use Rattle.std.proofs.Common.{sym}
use Rattle.proc_sched.proofs.NodeLaw.{takes-queue}
use Rattle.proc_sched.proofs.node.Node.take_queue.Goals as goal

pub returns-in-Some : goal.returns-in-Some
returns-in-Some c = takes-queue c.args.self.now c.args.pair c.in-Some.queue c.remove.new.self (sym c.in-Some.ensures.value) c.in-Some.ensures.updates.0
