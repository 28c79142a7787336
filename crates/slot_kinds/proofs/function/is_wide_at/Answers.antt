use Rattle.std.proofs.Common.{Some, sym, ap, ◌∙◌}
use Rattle.std.specs.List.{list_any}
use Rattle.beam_code.specs.Weights.{is_wide_tag}
use Rattle.slot_kinds.specs.Walked.{is_wide_at}
use Rattle.slot_kinds.proofs.Counted.{reached-wide}
use Rattle.slot_kinds.proofs.function.is_wide_at.Goals as goal

pub returns-in-Some : goal.returns-in-Some
returns-in-Some c =
    c.has_wide_tag.ensures ∙ ap (list_any is_wide_tag) c.as_slice.ensures ∙ sym (reached-wide (Some c.in-Some.state.now)) ∙ ap is_wide_at c.in-Some.ensures
