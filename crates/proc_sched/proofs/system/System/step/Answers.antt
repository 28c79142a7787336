use Rattle.std.proofs.Common.{refl, sym, ◌∙◌}
use Rattle.ej_world.specs.World.{ready}
use Rattle.proc_sched.specs.Stands.{world_of}
use Rattle.proc_sched.specs.Systems.{kept}
use Rattle.proc_sched.proofs.RoundsLaw.{next-is-ready, none-is-ready, there-is, steps-some}
use Rattle.proc_sched.proofs.system.System.step.Goals as goal

pub run-requires-clause-ready : goal.run-requires-clause-ready
run-requires-clause-ready g c = next-is-ready (world_of c.args.self.now.node) c.args.last c.in-Some.number (sym c.next_ready.ensures ∙ c.in-Some.is)

pub close-requires : goal.close-requires
close-requires g c = there-is g.P.Process.holds g.P.Process.means (g.P.Process.is_state c.args.code.now) g.met.P.Process.stays (kept c.args.self.now.node c.args.self.now.states.items) (kept c.run.new.self.node c.run.new.self.states.items) _ c.in_ok-run-in-Some.ensures

pub advance_to_deadline-requires-clause-none_ready : goal.advance_to_deadline-requires-clause-none_ready
advance_to_deadline-requires-clause-none_ready g c = none-is-ready c.args.last (ready (world_of c.args.self.now.node)) (sym c.next_ready.ensures ∙ c.in-None.is)

pub returns-in_ok-close-in-Some : goal.returns-in_ok-close-in-Some
returns-in_ok-close-in-Some g c =
    steps-some g.P.Process.holds g.P.Process.means (g.P.Process.is_state c.args.code.now) g.met.P.Process.stays (g.P.Process.code c.args.code.now) (kept c.args.self.now.node c.args.self.now.states.items) (kept c.run.new.self.node c.run.new.self.states.items) (kept c.close.new.self.node c.close.new.self.states.items) c.args.last c.in-Some.number _ (sym c.next_ready.ensures ∙ c.in-Some.is) refl c.in_ok-run-in-Some.ensures c.in_ok-close-in-Some.ensures
