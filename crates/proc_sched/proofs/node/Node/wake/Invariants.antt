use Rattle.std.proofs.Common.{length}
use Rattle.proc_sched.proofs.ClockLaw.{WakesSoFar}
use Rattle.proc_sched.proofs.node.Node.wake.Given as goal

abbrev pub invariant-loop-deadline : goal.invariant-loop-deadline
invariant-loop-deadline l = WakesSoFar l.initial.self l.self

abbrev pub decreases-loop-deadline : goal.decreases-loop-deadline
decreases-loop-deadline l = length l.self.deadlines.keys
