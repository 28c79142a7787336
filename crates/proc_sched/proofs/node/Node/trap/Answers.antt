use Rattle.ej_world.specs.Delivery.{appended, exit_message}
use Rattle.term_heap.specs.View.{term_of}
use Rattle.proc_sched.proofs.DeliveryLaw.{made-then}
use Rattle.proc_sched.proofs.NodeLaw.{then-ok}
use Rattle.proc_sched.proofs.node.Node.trap.Goals as goal

pub returns : goal.returns
returns c =
    then-ok c.append.result (made-then c.args.self.now c.exit_message.new.self c.append.new.self c.args.to (exit_message 0 c.args.from (term_of c.args.self.now.heap c.args.reason)) c.in_ok-message.message
    (λ w q t. appended w c.args.from c.args.to q t) c.in_ok-message.ensures) c.append.ensures
