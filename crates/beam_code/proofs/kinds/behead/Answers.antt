use Rattle.std.proofs.Common.{arith}
use Rattle.beam_code.proofs.SlotStates.{dropped-first}
use Rattle.beam_code.proofs.kinds.behead.Goals as goal

pub loop-preserved : goal.loop-preserved
loop-preserved c = dropped-first c.args.kinds.now c.loop.counter c.loop.kinds c.remove.new.self (omega arith) c.loop.invariant c.remove.ensures.rest
