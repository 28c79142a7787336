use Rattle.std.proofs.Common.{◌≡◌, ◌-◌, None, subst, arith}
use Rattle.ej_world.specs.Auto.{rounds}
use Rattle.proc_sched.specs.Freed.{freed}
use Rattle.proc_sched.specs.Systems.{kept, system_of}
use Rattle.proc_sched.proofs.RoundsLaw.{SoFar, far-none, far-nothing, far-round, far-end}
use Rattle.proc_sched.proofs.system.System.rounds.Goals as goal

pub loop-round-init : goal.loop-round-init
loop-round-init g c =
    let r = system_of g.P.Process.means (kept c.args.self.now.node c.args.self.now.states.items) in
    let whole : c.args.most ≡ c.args.most - 0 = omega arith in
    subst (λ n. SoFar g.P.Process.holds g.P.Process.means (g.P.Process.is_state c.args.code.now) g.met.P.Process.stays (rounds (freed (g.P.Process.code c.args.code.now)) n None) (kept c.args.self.now.node c.args.self.now.states.items) (kept c.args.self.now.node c.args.self.now.states.items) (rounds (freed (g.P.Process.code c.args.code.now)) c.args.most None r)) whole
    (far-none g.P.Process.holds g.P.Process.means (g.P.Process.is_state c.args.code.now) g.met.P.Process.stays (rounds (freed (g.P.Process.code c.args.code.now)) c.args.most None) (kept c.args.self.now.node c.args.self.now.states.items) c.requires)

pub deliver_all-requires : goal.deliver_all-requires
deliver_all-requires g c = c.loop-round.invariant.becomes.is

pub returns-in-Nothing : goal.returns-in-Nothing
returns-in-Nothing g c =
    far-nothing g.P.Process.holds g.P.Process.means (g.P.Process.is_state c.args.code.now) g.met.P.Process.stays (g.P.Process.code c.args.code.now) c.args.most c.loop-round._round c.loop-round.last (kept c.args.self.now.node c.args.self.now.states.items) (kept c.loop-round.self.node c.loop-round.self.states.items) (kept c.deliver_all.new.self.node c.deliver_all.new.self.states.items) (kept c.step.new.self.node c.step.new.self.states.items) _ c.in_ok-step.field-0 c.in-Nothing.is c.loop-round-test.true c.loop-round.invariant c.in_ok-deliver_all.ensures c.in_ok-step.ensures

pub loop-round-preserved : goal.loop-round-preserved
loop-round-preserved g c =
    far-round g.P.Process.holds g.P.Process.means (g.P.Process.is_state c.args.code.now) g.met.P.Process.stays (g.P.Process.code c.args.code.now) c.args.most c.loop-round._round c.loop-round.last c.in-Happened.ran (kept c.args.self.now.node c.args.self.now.states.items) (kept c.loop-round.self.node c.loop-round.self.states.items) (kept c.deliver_all.new.self.node c.deliver_all.new.self.states.items) (kept c.step.new.self.node c.step.new.self.states.items) _ c.in_ok-step.field-0 c.in-Happened.is c.loop-round-test.true c.loop-round.invariant c.in_ok-deliver_all.ensures c.in_ok-step.ensures

pub returns : goal.returns
returns g c = far-end g.P.Process.holds g.P.Process.means (g.P.Process.is_state c.args.code.now) g.met.P.Process.stays (g.P.Process.code c.args.code.now) c.args.most c.loop-round._round c.loop-round.last (kept c.args.self.now.node c.args.self.now.states.items) (kept c.loop-round.self.node c.loop-round.self.states.items) _ c.loop-round-test.false c.loop-round.invariant
