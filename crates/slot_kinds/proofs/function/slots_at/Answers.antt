use Rattle.std.proofs.Common.{Some, sym, ap, ◌∙◌}
use Rattle.beam_code.specs.Weights.{if_reached, defined_slots}
use Rattle.slot_kinds.proofs.Counted.{reached-slots}
use Rattle.slot_kinds.proofs.function.slots_at.Goals as goal

pub returns-in-Some : goal.returns-in-Some
returns-in-Some c = c.slots_in.ensures ∙ sym (reached-slots (Some c.in-Some.state.now)) ∙ ap (if_reached defined_slots) c.in-Some.ensures
