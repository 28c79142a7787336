use Rattle.proc_sched.proofs.NodeLaw.{then-ok}
use Rattle.proc_sched.proofs.SystemLaw.{becomes-ready}
use Rattle.proc_sched.proofs.system.System.close.Goals as goal

pub returns : goal.returns
returns g c = then-ok c.close.result (becomes-ready g.P.Process.holds g.P.Process.means (g.P.Process.is_state c.args.code.now) g.met.P.Process.stays (g.P.Process.code c.args.code.now) (g.met.P.Process.lawful c.args.code.now) c.args.self.now.node c.close.new.self c.args.self.now.states.items c.requires) c.close.ensures
