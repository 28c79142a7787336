use Rattle.proc_sched.proofs.NodeLaw.{show-does}
use Rattle.proc_sched.proofs.node.Node.show.Goals as goal

pub returns : goal.returns
returns c = show-does c.args.self.now c.push.new.self c.args.event c.requires.is_node c.requires.held c.in_ok-push.ensures.items
