use Rattle.std.proofs.Common.{◌-◌, map, take, drop, length, Some, sym, ap, ◌∙◌}
use Rattle.std.proofs.lemmas.List.{drop-map, take_rest}
use Rattle.beam_code.specs.Code.{opcode}
use Rattle.beam_code.specs.Slots.{state_of}
use Rattle.slot_kinds.specs.Segments.{behind}
use Rattle.slot_kinds.proofs.SettleLaw.{idle, no-row, no-state, a-state, place-of, walked}
use Rattle.std.proofs.Common.{subst}
use Rattle.slot_kinds.specs.Tags.{NamesKnown}
use Rattle.slot_kinds.specs.Tables.{known}
use Rattle.slot_kinds.proofs.TagsLaw.{names-behind}
use Rattle.slot_kinds.proofs.settle.revisit.Goals as goal

pub returns-in_default : goal.returns-in_default
returns-in_default c =
    idle (behind c.args.label (map opcode c.args.code.now)) c.args.table.now c.args.label (no-row c.args.table.now c.args.label (sym c.in_default.ensures.value))

pub returns-in_default-state : goal.returns-in_default-state
returns-in_default-state c =
    idle (behind c.args.label (map opcode c.args.code.now)) c.args.table.now c.args.label (no-state c.args.table.now c.args.label c.in-Some.row.now (sym c.in-Some.ensures.value) c.in_default-state.is)

pub returns : goal.returns
returns c =
    walked (map opcode c.args.code.now) (map opcode (take (length c.args.code.now - c.in-Some.row.now.place) (drop c.in-Some.row.now.place c.args.code.now))) c.args.table.now c.walk.new.table c.args.label (state_of c.in_ok-from.from) c.walk.result
    (ap (map opcode) (take_rest c.args.code.now c.in-Some.row.now.place) ∙ sym (drop-map opcode c.in-Some.row.now.place c.args.code.now) ∙ c.requires.placed.behind c.args.label c.in-Some.row.now.place (place-of c.args.table.now c.args.label c.in-Some.row.now (sym c.in-Some.ensures.value)))
    (a-state c.args.table.now c.args.label c.in-Some.row.now c.in-Some-state.state (sym c.in-Some.ensures.value) c.in-Some-state.is ∙ ap Some (sym c.in_ok-from.ensures))
    c.walk.ensures

pub walk-requires : goal.walk-requires
walk-requires c = record {
  names_known =
      subst (NamesKnown (known c.args.table.now)) (drop-map opcode c.in-Some.row.now.place c.args.code.now ∙ sym (ap (map opcode) (take_rest c.args.code.now c.in-Some.row.now.place)))
      (names-behind (known c.args.table.now) (map opcode c.args.code.now) c.in-Some.row.now.place c.requires.names_known);
  tags_known =
      c.requires.tags_known c.args.label (state_of c.in_ok-from.from)
      (a-state c.args.table.now c.args.label c.in-Some.row.now c.in-Some-state.state (sym c.in-Some.ensures.value) c.in-Some-state.is ∙ ap Some (sym c.in_ok-from.ensures));
}
