use Rattle.proc_sched.proofs.DeliveryLaw.{hits}
use Rattle.proc_sched.proofs.NodeLaw.{then-ok}
use Rattle.proc_sched.proofs.node.Node.hit.Goals as goal

pub returns : goal.returns
returns c = then-ok c.end.result (hits c.args.self.now c.show.new.self c.end.new.self c.args.from c.args.to c.args.reason c.requires.held c.in_ok-show.ensures) c.end.ensures
