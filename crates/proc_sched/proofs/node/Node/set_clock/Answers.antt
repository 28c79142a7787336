use Rattle.proc_sched.proofs.ClockLaw.{clock-node, clock-does}
use Rattle.proc_sched.proofs.NodeLaw.{then-ok}
use Rattle.proc_sched.proofs.node.Node.set_clock.Goals as goal

pub show-requires-clause-is_node : goal.show-requires-clause-is_node
show-requires-clause-is_node c = clock-node c.args.self.now c.wake.new.self c.args.clock c.requires.is_node c.requires.later c.in_ok-wake.ensures

pub returns : goal.returns
returns c = then-ok c.show.result (clock-does c.args.self.now c.wake.new.self c.show.new.self c.args.clock c.in_ok-wake.ensures) c.show.ensures
