use Rattle.std.proofs.Common.{refl}
use Rattle.proc_sched.proofs.SlotLaw.{live-rising, buries}
use Rattle.proc_sched.proofs.node.Node.bury.Goals as goal

pub remove-requires : goal.remove-requires
remove-requires c = record { rising = live-rising c.args.self.now c.leave.new.self c.args.number c.requires.is_node c.leave.ensures }

pub returns : goal.returns
returns c =
    buries c.args.self.now c.leave.new.self c.args.number _ c.index_mut.result.now c.remove.new.numbers c.requires.is_node c.leave.ensures c.requires.live c.index_mut.ensures.value refl c.remove.ensures
