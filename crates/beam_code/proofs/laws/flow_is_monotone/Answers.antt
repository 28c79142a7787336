use Rattle.beam_code.proofs.FlowBelow.{flow-below}
use Rattle.beam_code.proofs.laws.flow_is_monotone.Goals as goal

pub returns : goal.returns
returns c = flow-below
