use Rattle.beam_code.specs.Slots.{state_of}
use Rattle.beam_code.proofs.AfterLaw.{row-fails, row-holds, row-unknown}
use Rattle.beam_code.proofs.steps.after.Goals as goal

pub returns-then-not-holds : goal.returns-then-not-holds
returns-then-not-holds c = row-fails _ _ (state_of c.args.state.now) _ c.opcode_of-opcode.ensures c.holds.ensures c.if-not-holds.true

pub returns-in_err-step : goal.returns-in_err-step
returns-in_err-step c = row-unknown _ _ (state_of c.args.state.now) _ c.opcode_of-opcode.ensures c.holds.ensures _ c.if-not-holds.false c.from_residual.ensures.1

pub returns : goal.returns
returns c = row-holds _ _ (state_of c.args.state.now) _ c.opcode_of-opcode.ensures c.holds.ensures _ c.if-not-holds.false c.in_ok-step.ensures
