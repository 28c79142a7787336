use Rattle.proc_sched.proofs.NodeLaw.{then-ok}
use Rattle.proc_sched.proofs.SystemLaw.{becomes-clock}
use Rattle.proc_sched.proofs.system.System.set_clock.Goals as goal

pub returns : goal.returns
returns g c = then-ok c.set_clock.result (becomes-clock g.P.Process.holds g.P.Process.means (g.P.Process.is_state c.args.code.now) g.met.P.Process.stays (g.P.Process.code c.args.code.now) (g.met.P.Process.lawful c.args.code.now) c.args.self.now.node c.set_clock.new.self c.args.self.now.states.items c.args.clock c.requires.limit c.requires.is) c.set_clock.ensures
