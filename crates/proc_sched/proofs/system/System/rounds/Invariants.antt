use Rattle.std.proofs.Common.{◌-◌, None}
use Rattle.ej_world.specs.Auto.{rounds}
use Rattle.proc_sched.specs.Freed.{freed}
use Rattle.proc_sched.specs.Systems.{kept, system_of}
use Rattle.proc_sched.proofs.RoundsLaw.{SoFar}
use Rattle.proc_sched.proofs.system.System.rounds.Given as goal

abbrev pub invariant-loop-round : goal.invariant-loop-round
invariant-loop-round g l =
    let old = kept l.initial.self.node l.initial.self.states.items in
    let code = freed (g.P.Process.code l.code) in
    SoFar g.P.Process.holds g.P.Process.means (g.P.Process.is_state l.code) g.met.P.Process.stays (rounds code (l.most - l._round) l.last) old (kept l.self.node l.self.states.items) (rounds code l.most None (system_of g.P.Process.means old))
