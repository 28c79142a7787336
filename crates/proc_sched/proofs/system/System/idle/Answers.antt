use Rattle.ej_world.specs.Choices.{nothing}
use Rattle.proc_sched.specs.Systems.{kept, system_of}
use Rattle.proc_sched.proofs.NodeLaw.{then-ok}
use Rattle.proc_sched.proofs.SystemLaw.{becomes-nothing, becomes-closed}
use Rattle.proc_sched.proofs.system.System.idle.Goals as goal

pub close-requires : goal.close-requires
close-requires g c = (becomes-nothing g.P.Process.holds g.P.Process.means (g.P.Process.is_state c.args.code.now) g.met.P.Process.stays (g.P.Process.code c.args.code.now) (g.met.P.Process.lawful c.args.code.now) c.args.self.now.node c.show.new.self c.args.self.now.states.items c.requires c.in_ok-show.ensures).is

pub returns : goal.returns
returns g c =
    then-ok c.close.result
    (becomes-closed g.P.Process.holds g.P.Process.means (g.P.Process.is_state c.args.code.now) g.met.P.Process.stays (kept c.args.self.now.node c.args.self.now.states.items) (kept c.show.new.self c.args.self.now.states.items) (kept c.close.new.self.node c.close.new.self.states.items) (nothing (system_of g.P.Process.means (kept c.args.self.now.node c.args.self.now.states.items)))
    (becomes-nothing g.P.Process.holds g.P.Process.means (g.P.Process.is_state c.args.code.now) g.met.P.Process.stays (g.P.Process.code c.args.code.now) (g.met.P.Process.lawful c.args.code.now) c.args.self.now.node c.show.new.self c.args.self.now.states.items c.requires c.in_ok-show.ensures))
    c.close.ensures
