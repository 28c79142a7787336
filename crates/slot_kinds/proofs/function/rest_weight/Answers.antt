use Rattle.std.proofs.Common.{nat_eq, sym, ap, ◌∙◌}
use Rattle.std.specs.Prelude.{option_map}
use Rattle.indexmap.specs.IndexSet.{contains}
use Rattle.beam_code.specs.Code.{opcode}
use Rattle.beam_code.specs.Good.{assignment_of, next_state}
use Rattle.beam_code.specs.Labels.{defined_by}
use Rattle.beam_code.specs.Slots.{state_of}
use Rattle.beam_code.specs.Weights.{saturated}
use Rattle.slot_kinds.specs.Walked.{back_count, weighed, with_seen}
use Rattle.slot_kinds.proofs.Counted.{counts-are}
use Rattle.slot_kinds.proofs.Left.{left-more}
use Rattle.slot_kinds.proofs.Saturating.{within-is}
use Rattle.slot_kinds.proofs.Walking.{weighed-more}
use Rattle.slot_kinds.proofs.function.rest_weight.Goals as goal

pub loop-instr-preserved : goal.loop-instr-preserved
loop-instr-preserved c =
    let e = left-more opcode c.args.code.now c.loop-instr.instr-index c.instr-item.result c.loop-instr-test.true c.instr-item.is in
    let at = assignment_of c.args.map.now in
    let seen = contains nat_eq c.loop-instr.passed in
    let before = option_map state_of c.loop-instr.state in
    record {
      within = within-is _ _ c.saturating_add-total.ensures;
      same =
          weighed-more c.args.wide at seen (contains nat_eq c.pass.new.passed) before _ _ _ _ c.counts_of.result c.back_count-back.result c.loop-instr.total _ c.weighed.result _ e
          (counts-are c.loop-instr.state ∙ sym c.counts_of.ensures)
          (c.back_count-back.ensures ∙ ap (back_count seen) c.opcode-opcode.ensures)
          (c.weighed.ensures ∙ ap (λ o. saturated (weighed c.args.wide o c.counts_of.result c.back_count-back.result)) c.opcode-opcode.ensures)
          c.saturating_add-total.ensures
          (c.in_ok-state.ensures ∙ ap (λ o. next_state at o before) c.opcode-opcode.ensures)
          (λ q. c.in_ok-pass.ensures q ∙ ap (λ o. with_seen seen (defined_by o) q) c.opcode-opcode.ensures)
          c.loop-instr.invariant.same;
    }
