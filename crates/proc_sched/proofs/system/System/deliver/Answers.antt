use Rattle.std.proofs.Common.{refl}
use Rattle.ej_world.specs.Delivery.{deliver}
use Rattle.proc_sched.specs.Stands.{world_of}
use Rattle.proc_sched.proofs.NodeLaw.{then-if}
use Rattle.proc_sched.proofs.SystemLaw.{becomes-delivered}
use Rattle.proc_sched.proofs.system.System.deliver.Goals as goal

pub returns : goal.returns
returns g c =
    then-if c.deliver.result (λ was. becomes-delivered g.P.Process.holds g.P.Process.means (g.P.Process.is_state c.args.code.now) g.met.P.Process.stays (g.P.Process.code c.args.code.now) (g.met.P.Process.lawful c.args.code.now) c.args.self.now.node c.deliver.new.self c.args.self.now.states.items c.args.from c.args.to was (deliver (world_of c.args.self.now.node) c.args.from c.args.to) c.requires refl) c.deliver.ensures
