use Rattle.proc_sched.proofs.NodeLaw.{adds-slot}
use Rattle.proc_sched.proofs.node.Node.add_slot.Goals as goal

pub returns : goal.returns
returns c = adds-slot c.args.self.now c.push.new.self c.fresh.result c.next_pid-number.result c.insert.new.self c.next_pid-number.ensures c.fresh.ensures c.in_ok-push.ensures.items c.in_ok-insert.ensures.updates.0
