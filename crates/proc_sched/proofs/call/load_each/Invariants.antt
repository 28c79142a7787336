use Rattle.proc_sched.proofs.LoadLaw.{LoadedTo}
use Rattle.proc_sched.proofs.call.load_each.Given as goal

abbrev pub invariant-loop-at : goal.invariant-loop-at
invariant-loop-at l = LoadedTo l.terms l.at l.initial.heap l.heap l.ids.items
