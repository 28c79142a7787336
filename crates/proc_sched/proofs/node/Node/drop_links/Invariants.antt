use Rattle.proc_sched.proofs.LinksLaw.{DropsFrom}
use Rattle.proc_sched.proofs.node.Node.drop_links.Given as goal

abbrev pub invariant-loop-other : goal.invariant-loop-other
invariant-loop-other l = DropsFrom l.me l.before l.other-index l.initial.self l.self
