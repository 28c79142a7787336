use Rattle.beam_code.proofs.SlotStates.{kind-of-x, kind-of-y}
use Rattle.beam_code.proofs.slot_state.SlotState.kind.Goals as goal

pub returns-in-X : goal.returns-in-X
returns-in-X c = kind-of-x c.args.self.now c.args.register c.in-X.n _ c.in-X.is c.get.ensures.value

pub returns-in-Y : goal.returns-in-Y
returns-in-Y c = kind-of-y c.args.self.now c.args.register c.in-Y.n _ c.in-Y.is c.get-in-Y.ensures.value
