use Rattle.std.proofs.Common.{ap, subst}
use Rattle.ej_world.specs.Runs.{Run, Deliver, Advance, Auto}
use Rattle.proc_sched.specs.Choose.{chosen}
use Rattle.proc_sched.specs.Systems.{kept, Starts}
use Rattle.proc_sched.proofs.WorldLaw.{start-makes, input-makes}
use Rattle.proc_sched.proofs.system.System.choose.Goals as goal

pub returns-in-Start : goal.returns-in-Start
returns-in-Start g c =
    start-makes g.P.Process.holds g.P.Process.means (g.P.Process.is_state c.args.code.now) (g.P.Process.code c.args.code.now) c.args.choice.now c.in-Start.«module» c.in-Start.name c.in-Start.args (kept c.args.self.now.node c.args.self.now.states.items) (kept c.start.new.self.node c.start.new.self.states.items) c.start.result c.in-Start.is
    (subst (λ args. Starts g.P.Process.holds g.P.Process.means (g.P.Process.is_state c.args.code.now) (g.P.Process.code c.args.code.now) c.in-Start.«module» c.in-Start.name args (kept c.args.self.now.node c.args.self.now.states.items) (kept c.start.new.self.node c.start.new.self.states.items) c.start.result) c.as_slice.ensures c.start.ensures)

pub returns-in_ok-run_or_idle-in-Run : goal.returns-in_ok-run_or_idle-in-Run
returns-in_ok-run_or_idle-in-Run g c = (Run c.in-Run.pid c.in-Run.transfers, ap chosen c.in-Run.is, c.in_ok-run_or_idle-in-Run.ensures)

pub returns-in_ok-deliver_or_idle-in-Deliver : goal.returns-in_ok-deliver_or_idle-in-Deliver
returns-in_ok-deliver_or_idle-in-Deliver g c = (Deliver c.in-Deliver.from c.in-Deliver.to, ap chosen c.in-Deliver.is, c.in_ok-deliver_or_idle-in-Deliver.ensures)

pub returns-in_ok-advance-in-Advance : goal.returns-in_ok-advance-in-Advance
returns-in_ok-advance-in-Advance g c = (Advance c.in-Advance.ms, ap chosen c.in-Advance.is, c.in_ok-advance-in-Advance.ensures)

pub returns-in-Input : goal.returns-in-Input
returns-in-Input g c =
    input-makes g.P.Process.holds g.P.Process.means (g.P.Process.is_state c.args.code.now) (g.P.Process.code c.args.code.now) c.args.choice.now c.in-Input.pid c.in-Input.term (kept c.args.self.now.node c.args.self.now.states.items) (kept c.input.new.self.node c.input.new.self.states.items) c.input.result c.in-Input.is c.input.ensures

pub returns-in_ok-auto-in-Auto : goal.returns-in_ok-auto-in-Auto
returns-in_ok-auto-in-Auto g c = (Auto c.in-Auto.rounds, ap chosen c.in-Auto.is, c.in_ok-auto-in-Auto.ensures)
