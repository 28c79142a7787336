use Rattle.proc_sched.proofs.NodeLaw.{then-ok}
use Rattle.proc_sched.proofs.StartLaw.{becomes-started}
use Rattle.proc_sched.proofs.system.System.start_next.Goals as goal

pub returns : goal.returns
returns g c =
    then-ok c.show.result
    (becomes-started g.P.Process.holds g.P.Process.means (g.P.Process.is_state c.args.code.now) g.met.P.Process.stays (g.P.Process.code c.args.code.now) (g.met.P.Process.lawful c.args.code.now) c.args.self.now.node c.add.new.self.node c.show.new.self c.args.self.now.states.items c.add.new.self.states.items c.push.new.self c.next_pid-number.result c.args.how c.requires.is c.requires.may c.requires.room
    c.next_pid-number.ensures c.in_ok-push.ensures.items c.in_ok-add.ensures)
    c.show.ensures
