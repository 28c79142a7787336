use Rattle.std.proofs.Common.{None, map, sym, ap, ◌∙◌}
use Rattle.std.specs.Prelude.{option_map}
use Rattle.std.specs.List.{sum}
use Rattle.beam_code.specs.Code.{opcode}
use Rattle.beam_code.specs.Good.{assignment_of, next_state}
use Rattle.beam_code.specs.Seen.{opcode_seen}
use Rattle.beam_code.specs.Slots.{state_of}
use Rattle.beam_code.specs.Weights.{places_of, saturated, weight_at}
use Rattle.slot_kinds.specs.Walked.{counts_at, weighed}
use Rattle.slot_kinds.proofs.Counted.{counts-are}
use Rattle.slot_kinds.proofs.Walking.{weighed-all}
use Rattle.slot_kinds.proofs.function.code_weight.Goals as goal

pub returns : goal.returns
returns c =
    let at = assignment_of c.args.map.now in
    let wide = c.is_wide-wide.result in
    weighed-all wide at (opcode c.in-Some.first.now) (map opcode c.in-Some.rest.now) (map opcode c.args.code.now) (option_map state_of c.in_ok-before.before) c.weighed-begun.result c.in_ok-rest_weight.field-0 _
    (ap (map opcode) c.in-Some.ensures.cases.0)
    (c.weighed-begun.ensures ∙ ap (λ k. saturated (weighed wide (opcode_seen c.opcode-opcode.result) k 0)) (c.counts_of.ensures ∙ sym (counts-are None)) ∙ ap (λ o. saturated (weighed wide o (counts_at None) 0)) c.opcode-opcode.ensures)
    (c.in_ok-before.ensures ∙ ap (λ o. next_state at o None) c.opcode-opcode.ensures)
    c.in_ok-rest_weight.ensures
    c.saturating_add.ensures
    ∙ ap (λ w. saturated (sum (map (weight_at w) (places_of at (map opcode c.args.code.now))))) c.is_wide-wide.ensures
