use Rattle.proc_sched.proofs.NodeLaw.{then-ok}
use Rattle.proc_sched.proofs.StartLaw.{live-there, becomes-put}
use Rattle.proc_sched.proofs.system.System.put_in.Goals as goal

pub show-requires-clause-is_node : goal.show-requires-clause-is_node
show-requires-clause-is_node g c = let p = live-there _ c.requires.live in (c.in_ok-put_in.ensures.does p.process p.is).is_node

pub returns : goal.returns
returns g c =
    then-ok c.show.result (becomes-put g.P.Process.holds g.P.Process.means (g.P.Process.is_state c.args.code.now) g.met.P.Process.stays (g.P.Process.code c.args.code.now) (g.met.P.Process.lawful c.args.code.now) c.args.self.now.node c.put_in.new.self c.show.new.self c.args.self.now.states.items c.args.number c.args.message c.requires.is c.requires.live c.in_ok-put_in.ensures) c.show.ensures
