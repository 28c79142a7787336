use Rattle.proc_sched.specs.Systems.{kept}
use Rattle.proc_sched.proofs.NodeLaw.{then-ok}
use Rattle.proc_sched.proofs.SystemLaw.{becomes-if, becomes-if-not}
use Rattle.proc_sched.proofs.system.System.deliver_or_idle.Goals as goal

pub returns-then-not-branch : goal.returns-then-not-branch
returns-then-not-branch g c = then-ok c.idle.result (becomes-if-not g.P.Process.holds g.P.Process.means (g.P.Process.is_state c.args.code.now) g.met.P.Process.stays c.in_ok-deliver.field-0 (kept c.args.self.now.node c.args.self.now.states.items) (kept c.deliver.new.self.node c.deliver.new.self.states.items) (kept c.idle.new.self.node c.idle.new.self.states.items) _ c.if-not-branch.true c.in_ok-deliver.ensures) c.idle.ensures

pub returns : goal.returns
returns g c = then-ok c.close.result (becomes-if g.P.Process.holds g.P.Process.means (g.P.Process.is_state c.args.code.now) g.met.P.Process.stays c.in_ok-deliver.field-0 (kept c.args.self.now.node c.args.self.now.states.items) (kept c.deliver.new.self.node c.deliver.new.self.states.items) (kept c.close.new.self.node c.close.new.self.states.items) _ c.if-not-branch.false c.in_ok-deliver.ensures) c.close.ensures
