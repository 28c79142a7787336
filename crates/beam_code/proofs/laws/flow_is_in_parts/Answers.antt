use Rattle.beam_code.proofs.FlowPartsLaw.{flow-parts}
use Rattle.beam_code.proofs.laws.flow_is_in_parts.Goals as goal

pub returns : goal.returns
returns c = flow-parts
