use Rattle.ej_world.specs.Choices.{closed, or_nothing, put_in}
use Rattle.term_heap.specs.View.{term_of}
use Rattle.proc_sched.specs.Systems.{kept}
use Rattle.proc_sched.proofs.Kept.{with_heap, only-heap}
use Rattle.proc_sched.proofs.SystemLaw.{becomes-heap, becomes-grown}
use Rattle.proc_sched.proofs.system.System.input.Goals as goal

pub put_in_or_idle-requires-clause-is : goal.put_in_or_idle-requires-clause-is
put_in_or_idle-requires-clause-is g c = (becomes-heap g.P.Process.holds g.P.Process.means (g.P.Process.is_state c.args.code.now) g.met.P.Process.stays c.args.self.now.node (with_heap c.args.self.now.node c.load.new.self) c.args.self.now.states.items c.requires (only-heap c.args.self.now.node c.load.new.self c.in_ok-message.ensures.keeps c.requires.is_kept.is_node)).is

pub returns : goal.returns
returns g c = (
  term_of c.load.new.self c.in_ok-message.message,
  c.in_ok-message.ensures.loads.1,
  becomes-grown g.P.Process.holds g.P.Process.means (g.P.Process.is_state c.args.code.now) g.met.P.Process.stays (kept c.args.self.now.node c.args.self.now.states.items) (kept (with_heap c.args.self.now.node c.load.new.self) c.args.self.now.states.items) (kept c.put_in_or_idle.new.self.node c.put_in_or_idle.new.self.states.items) (λ r. closed (or_nothing r (put_in r c.args.number (term_of c.load.new.self c.in_ok-message.message))))
      (becomes-heap g.P.Process.holds g.P.Process.means (g.P.Process.is_state c.args.code.now) g.met.P.Process.stays c.args.self.now.node (with_heap c.args.self.now.node c.load.new.self) c.args.self.now.states.items c.requires (only-heap c.args.self.now.node c.load.new.self c.in_ok-message.ensures.keeps c.requires.is_kept.is_node)) c.in_ok-put_in_or_idle.ensures,
)
