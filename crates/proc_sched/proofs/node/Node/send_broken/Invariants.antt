use Rattle.proc_sched.proofs.DeliveryLaw.{BrokenTo}
use Rattle.proc_sched.proofs.node.Node.send_broken.Given as goal

abbrev pub invariant-loop-at : goal.invariant-loop-at
invariant-loop-at l = BrokenTo l.number l.reason l.at l.initial.self l.self
