use Rattle.proc_sched.proofs.NodeLaw.{SentFrom}
use Rattle.proc_sched.proofs.node.Node.send_from.Given as goal

abbrev pub invariant-loop-at : goal.invariant-loop-at
invariant-loop-at l = SentFrom l.first l.at l.initial.self l.self
