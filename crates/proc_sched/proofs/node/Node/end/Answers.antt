use Rattle.proc_sched.proofs.DeliveryLaw.{alone-node, ended-held, ended-within, ends-does}
use Rattle.proc_sched.proofs.NodeLaw.{then-ok}
use Rattle.proc_sched.proofs.node.Node.end.Goals as goal

pub send-requires-clause-is_node : goal.send-requires-clause-is_node
send-requires-clause-is_node c = alone-node c.args.number c.args.self.now c.bury.new.self _ c.requires.live c.bury.ensures

pub send_broken-requires-clause-held : goal.send_broken-requires-clause-held
send_broken-requires-clause-held c = ended-held c.args.self.now c.bury.new.self c.send.new.self c.args.number c.args.reason _ c.requires.held c.bury.ensures c.in_ok-send.ensures

pub send_broken-requires-clause-within : goal.send_broken-requires-clause-within
send_broken-requires-clause-within c = ended-within c.args.self.now c.bury.new.self c.send.new.self c.args.number _ c.requires.live c.bury.ensures c.in_ok-send.ensures

pub returns : goal.returns
returns c =
    then-ok c.send_broken.result (ends-does c.args.self.now c.bury.new.self c.send.new.self c.send_broken.new.self c.args.number c.args.reason c.requires.held c.bury.ensures c.in_ok-send.ensures) c.send_broken.ensures
