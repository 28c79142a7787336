use Rattle.std.proofs.Common.{◌+◌, ◌*◌, nat_eq, ap, ◌∙◌}
use Rattle.indexmap.specs.IndexSet.{contains}
use Rattle.beam_code.specs.Good.{assignment_of}
use Rattle.beam_code.specs.Weights.{saturated}
use Rattle.slot_kinds.proofs.Walking.{function-read, weight-is}
use Rattle.slot_kinds.proofs.function.weight.Goals as goal

pub returns : goal.returns
returns c =
    let at = assignment_of c.args.map.now in
    weight-is at c.index-as_slice-func.result _ c.as_slice-code.result.now (contains nat_eq c.in_ok-entries.entries) _ c.in_ok-inner.inner _ _ _
    (function-read c.args.module.now.functions c.as_slice.result.now c.args.func c.index-as_slice-func.result c.as_slice.ensures c.requires.func_in_range c.index-as_slice-func.is)
    c.as_slice-code.ensures
    (c.line.ensures ∙ ap (λ a. saturated (64 + 12 * a)) c.from.ensures) c.in_ok-inner.ensures c.saturating_add.ensures (c.in_ok-entries.ensures at) c.entries_weight.ensures c.saturating_add-2.ensures
