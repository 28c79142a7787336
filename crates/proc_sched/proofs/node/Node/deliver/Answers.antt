use Rattle.proc_sched.proofs.DeliveryLaw.{deliver-none, deliver-some}
use Rattle.proc_sched.proofs.node.Node.deliver.Goals as goal

pub returns-in_ok-to_process-in-Some : goal.returns-in_ok-to_process-in-Some
returns-in_ok-to_process-in-Some c =
    deliver-some c.args.self.now c.take.new.self c.to_process.new.self c.args.from c.args.to c.in_ok-signal.field-0 c.in-Some.signal c.in-Some.is c.in_ok-signal.ensures c.in_ok-to_process-in-Some.ensures

pub returns-in-None : goal.returns-in-None
returns-in-None c = deliver-none c.args.self.now c.take.new.self c.args.from c.args.to c.in_ok-signal.field-0 c.in-None.is c.in_ok-signal.ensures
