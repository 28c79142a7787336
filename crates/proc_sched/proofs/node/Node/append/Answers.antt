use Rattle.proc_sched.proofs.DeliveryLaw.{alone-node}
use Rattle.proc_sched.proofs.node.Node.append.Goals as goal

pub show-requires-clause-is_node : goal.show-requires-clause-is_node
show-requires-clause-is_node c = alone-node c.args.to c.args.self.now c.put_in.new.self _ c.requires.live c.in_ok-put_in.ensures
