use Rattle.proc_sched.proofs.NodeLaw.{then-ok}
use Rattle.proc_sched.proofs.StartLaw.{adds-state}
use Rattle.proc_sched.proofs.system.System.add.Goals as goal

pub returns : goal.returns
returns g c =
    then-ok c.add_slot.result
    (adds-state g.P.Process.holds g.P.Process.means (g.P.Process.is_state c.args.code.now) g.met.P.Process.stays (g.P.Process.code c.args.code.now) c.args.self.now.node c.add_slot.new.self c.begin.new.heap c.args.self.now.states.items c.push.new.self.items c.in_ok-state.state c.args.how.now _ c.requires.is.1
    c.in_ok-state.ensures.keeps c.in_ok-state.ensures.begins c.in_ok-push.ensures.items) c.add_slot.ensures
