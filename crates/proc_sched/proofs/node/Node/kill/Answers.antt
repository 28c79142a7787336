use Rattle.ej_world.specs.Delivery.{hit}
use Rattle.proc_sched.specs.Nodes.{killed}
use Rattle.proc_sched.proofs.DeliveryLaw.{made-then}
use Rattle.proc_sched.proofs.NodeLaw.{then-ok}
use Rattle.proc_sched.proofs.node.Node.kill.Goals as goal

pub returns : goal.returns
returns c =
    then-ok c.hit.result (made-then c.args.self.now c.killed.new.self c.hit.new.self c.args.to killed c.in_ok-killed.killed (λ w q t. hit w c.args.from c.args.to q t) c.in_ok-killed.ensures) c.hit.ensures
