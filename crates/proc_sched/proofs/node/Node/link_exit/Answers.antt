use Rattle.proc_sched.proofs.DeliveryLaw.{alone-node, unlinked-live, breaks-link}
use Rattle.proc_sched.proofs.NodeLaw.{then-ok}
use Rattle.proc_sched.proofs.node.Node.link_exit.Goals as goal

pub exit-requires-clause-is_node : goal.exit-requires-clause-is_node
exit-requires-clause-is_node c = alone-node c.args.to c.args.self.now c.unlink.new.self _ c.requires.live c.unlink.ensures.does

pub exit-requires-clause-live : goal.exit-requires-clause-live
exit-requires-clause-live c = unlinked-live c.args.self.now c.unlink.new.self c.args.from c.args.to c.unlink.result c.if-not-unlink.false c.requires.live c.unlink.ensures

pub returns : goal.returns
returns c =
    then-ok c.exit.result (breaks-link c.args.self.now c.unlink.new.self c.exit.new.self c.args.from c.args.to c.unlink.result c.args.reason c.if-not-unlink.false c.unlink.ensures) c.exit.ensures
