use Rattle.std.proofs.Common.{map, ap, sym, ◌∙◌}
use Rattle.std.proofs.lemmas.Bool.{true≢false}
use Rattle.beam_code.specs.SlotForm.{rises}
use Rattle.slot_kinds.proofs.SettleLaw.{drained, map-rises}
use Rattle.slot_kinds.proofs.table.Table.into_map.Goals as goal

pub invariant_of-result : goal.invariant_of-result
invariant_of-result c =
    record { labels_rise = ap (λ es. rises (map (λ e. e.0) es)) (drained c.loop-label.at c.loop-label.rows.entries c.args.self.rows.entries (λ h. true≢false (sym (c.in_default.ensures.variant.1 h))) c.loop-label.invariant) ∙ map-rises c.args.self.rows.entries c.len-count.ensures.ordered }
