use Rattle.std.proofs.Common.{arith}
use Rattle.proc_sched.specs.Systems.{kept}
use Rattle.proc_sched.proofs.NodeLaw.{then-ok}
use Rattle.proc_sched.proofs.RoundsLaw.{auto-idle, auto-some}
use Rattle.proc_sched.proofs.system.System.auto.Goals as goal

pub returns-then-len-before : goal.returns-then-len-before
returns-then-len-before g c =
    then-ok c.idle.result
    (auto-idle g.P.Process.holds g.P.Process.means (g.P.Process.is_state c.args.code.now) g.met.P.Process.stays (g.P.Process.code c.args.code.now) c.args.most (kept c.args.self.now.node c.args.self.now.states.items) (kept c.rounds.new.self.node c.rounds.new.self.states.items) (kept c.idle.new.self.node c.idle.new.self.states.items) c.in_ok-rounds.ensures
    (omega (arith, c.rounds.new.self.node.events.ok, c.args.self.now.node.events.ok, c.len.ensures, c.len-before.ensures, c.if-len-before.true))) c.idle.ensures

pub returns : goal.returns
returns g c =
    auto-some g.P.Process.holds g.P.Process.means (g.P.Process.is_state c.args.code.now) g.met.P.Process.stays (g.P.Process.code c.args.code.now) c.args.most (kept c.args.self.now.node c.args.self.now.states.items) (kept c.rounds.new.self.node c.rounds.new.self.states.items) c.in_ok-rounds.ensures
    (λ same. c.if-len-before.false (omega (arith, c.rounds.new.self.node.events.ok, c.args.self.now.node.events.ok, c.len.ensures, c.len-before.ensures, same)))
