use Rattle.proc_sched.proofs.LinksLaw.{AddsFrom}
use Rattle.proc_sched.proofs.node.Node.add_links.Given as goal

abbrev pub invariant-loop-at : goal.invariant-loop-at
invariant-loop-at l = AddsFrom l.me l.before l.at l.initial.self l.self
