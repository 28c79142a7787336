use Rattle.ej_world.specs.Auto.{signals, all_delivered}
use Rattle.proc_sched.specs.Stands.{world_of}
use Rattle.proc_sched.specs.Systems.{kept, system_of}
use Rattle.proc_sched.proofs.RoundsLaw.{SoFar}
use Rattle.proc_sched.proofs.system.System.deliver_all.Given as goal

abbrev pub invariant-loop-from : goal.invariant-loop-from
invariant-loop-from g l =
    let old = kept l.initial.self.node l.initial.self.states.items in
    SoFar g.P.Process.holds g.P.Process.means (g.P.Process.is_state l.code) g.met.P.Process.stays all_delivered old (kept l.self.node l.self.states.items) (all_delivered (system_of g.P.Process.means old))

abbrev pub decreases-loop-from : goal.decreases-loop-from
decreases-loop-from g l = signals (world_of l.self.node)
