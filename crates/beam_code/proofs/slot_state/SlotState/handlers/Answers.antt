use Rattle.std.proofs.Common.{ap, ◌∙◌}
use Rattle.beam_code.specs.Kinds.{first_tag}
use Rattle.beam_code.proofs.SlotStates.{handlers-of}
use Rattle.beam_code.proofs.slot_state.SlotState.handlers.Goals as goal

pub returns : goal.returns
returns c = c.first_tag.ensures ∙ ap first_tag c.as_slice.ensures ∙ handlers-of c.args.self.now
