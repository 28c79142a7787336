use Rattle.std.proofs.Common.{subst}
use Rattle.ej_term.specs.Term.{Atom, list}
use Rattle.ej_world.specs.declared.effect.Begin.TheVariants as begin
use Rattle.ej_world.specs.Choices.{closed, or_nothing, start}
use Rattle.proc_sched.specs.Freed.{freed}
use Rattle.proc_sched.specs.Systems.{kept, system_of, Becomes}
use Rattle.proc_sched.proofs.Kept.{with_heap, only-heap}
use Rattle.proc_sched.proofs.LoadLaw.{may-begin}
use Rattle.proc_sched.proofs.SystemLaw.{becomes-heap, becomes-grown}
use Rattle.proc_sched.proofs.system.System.start.Goals as goal

pub start_or_idle-requires-clause-is : goal.start_or_idle-requires-clause-is
start_or_idle-requires-clause-is g c = (becomes-heap g.P.Process.holds g.P.Process.means (g.P.Process.is_state c.args.code.now) g.met.P.Process.stays c.args.self.now.node (with_heap c.args.self.now.node c.load_call.new.heap) c.args.self.now.states.items c.requires.is (only-heap c.args.self.now.node c.load_call.new.heap c.in_ok-how.ensures.keeps c.requires.is.is_kept.is_node)).is

pub start_or_idle-requires-clause-may : goal.start_or_idle-requires-clause-may
start_or_idle-requires-clause-may g c = may-begin c.args.«module».now c.args.name.now c.args.args.now c.load_call.new.heap c.in_ok-how.how c.in_ok-how.ensures.loads c.requires.count

pub returns : goal.returns
returns g c =
    let loads = c.in_ok-how.ensures.loads in (
      loads.parts,
      loads.are,
      becomes-grown g.P.Process.holds g.P.Process.means (g.P.Process.is_state c.args.code.now) g.met.P.Process.stays (kept c.args.self.now.node c.args.self.now.states.items) (kept (with_heap c.args.self.now.node c.load_call.new.heap) c.args.self.now.states.items) (kept c.start_or_idle.new.self.node c.start_or_idle.new.self.states.items) (λ r. closed (or_nothing r (start (freed (g.P.Process.code c.args.code.now)) r (begin.Call (Atom c.args.«module».now) (Atom c.args.name.now) (list loads.parts)))))
          (becomes-heap g.P.Process.holds g.P.Process.means (g.P.Process.is_state c.args.code.now) g.met.P.Process.stays c.args.self.now.node (with_heap c.args.self.now.node c.load_call.new.heap) c.args.self.now.states.items c.requires.is (only-heap c.args.self.now.node c.load_call.new.heap c.in_ok-how.ensures.keeps c.requires.is.is_kept.is_node))
          (subst (λ how. Becomes g.P.Process.holds g.P.Process.means (g.P.Process.is_state c.args.code.now) (kept (with_heap c.args.self.now.node c.load_call.new.heap) c.args.self.now.states.items) (kept c.start_or_idle.new.self.node c.start_or_idle.new.self.states.items)
          (closed (or_nothing (system_of g.P.Process.means (kept (with_heap c.args.self.now.node c.load_call.new.heap) c.args.self.now.states.items)) (start (freed (g.P.Process.code c.args.code.now)) (system_of g.P.Process.means (kept (with_heap c.args.self.now.node c.load_call.new.heap) c.args.self.now.states.items)) how))))
          loads.is c.in_ok-start_or_idle.ensures),
    )
