use Rattle.proc_sched.proofs.SpawnLaw.{SpawnedFrom}
use Rattle.proc_sched.specs.Systems.{kept}
use Rattle.proc_sched.proofs.system.System.make_spawned.Given as goal

abbrev pub invariant-loop-at : goal.invariant-loop-at
invariant-loop-at g l = SpawnedFrom g.P.Process.holds g.P.Process.means (g.P.Process.code l.code) l.first l.at (kept l.initial.self.node l.initial.self.states.items) (kept l.self.node l.self.states.items)
