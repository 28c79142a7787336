use Rattle.beam_code.proofs.SlotStates.{terms-end, terms-formed}
use Rattle.beam_code.proofs.slot_state.SlotState.entered.Goals as goal

pub invariant_of-result-clause-xs_end : goal.invariant_of-result-clause-xs_end
invariant_of-result-clause-xs_end c = terms-end c.in_ok-xs.xs c.args.arity c.in_ok-xs.ensures

pub invariant_of-result-clause-xs_kinds : goal.invariant_of-result-clause-xs_kinds
invariant_of-result-clause-xs_kinds c = terms-formed c.in_ok-xs.xs c.args.arity c.in_ok-xs.ensures
