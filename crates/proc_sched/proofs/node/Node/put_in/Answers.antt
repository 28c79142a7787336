use Rattle.std.proofs.Common.{refl}
use Rattle.proc_sched.proofs.NodeLaw.{then-ok}
use Rattle.proc_sched.proofs.SlotLaw.{slot-changes, message-put, message-held}
use Rattle.proc_sched.proofs.node.Node.put_in.Goals as goal

pub returns : goal.returns
returns c =
    let heap = c.args.self.now.heap in
    let was = c.index_mut.result.now in
    then-ok c.enter.result (slot-changes c.args.self.now c.leave.new.self c.enter.new.self c.args.to _ was _ _ c.requires.is_node c.leave.ensures c.requires.within c.index_mut.ensures.value refl
    (message-held heap was c.push.new.self c.args.message c.in_ok-push.ensures.ok c.requires.held) (message-put heap was c.push.new.self c.args.message c.in_ok-push.ensures.ok) refl) c.enter.ensures
