use Rattle.slot_kinds.proofs.Saturating.{plus-is, times-is}
use Rattle.slot_kinds.proofs.weigh.charged.Goals as goal

pub returns : goal.returns
returns c =
    plus-is _ _ _ _ _ c.saturating_add-2.ensures
    (plus-is _ _ _ _ _ c.saturating_add.ensures (times-is _ _ _ _ _ c.saturating_mul-entries.ensures c.again.ensures c.line.ensures) c.waiting_part.ensures)
    c.wide_part.ensures
