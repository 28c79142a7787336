use Rattle.proc_sched.specs.Systems.{kept}
use Rattle.proc_sched.proofs.NodeLaw.{then-ok}
use Rattle.proc_sched.proofs.SystemLaw.{becomes-or}
use Rattle.proc_sched.proofs.system.System.run_or_idle.Goals as goal

pub returns : goal.returns
returns g c = then-ok c.close.result (becomes-or g.P.Process.holds g.P.Process.means (g.P.Process.is_state c.args.code.now) g.met.P.Process.stays (kept c.args.self.now.node c.args.self.now.states.items) (kept c.run.new.self.node c.run.new.self.states.items) (kept c.close.new.self.node c.close.new.self.states.items) _ c.in_ok-run.ensures) c.close.ensures
