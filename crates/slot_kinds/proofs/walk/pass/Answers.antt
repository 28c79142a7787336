use Rattle.std.proofs.Common.{sym, ◌∙◌}
use Rattle.beam_code.specs.Seen.{opcode_seen}
use Rattle.beam_code.specs.Slots.{state_of}
use Rattle.slot_kinds.specs.Tables.{Refuses}
use Rattle.slot_kinds.specs.Walks.{ReachesAll, GoesOn}
use Rattle.slot_kinds.proofs.AnswerLaw.{handed-on}
use Rattle.slot_kinds.proofs.WalkLaw.{no-row, pass-refused, passes}
use Rattle.std.proofs.Common.{subst}
use Rattle.slot_kinds.specs.Tags.{TagsKnown}
use Rattle.slot_kinds.specs.Tables.{known}
use Rattle.slot_kinds.proofs.TagsLaw.{entered-known}
use Rattle.slot_kinds.proofs.walk.pass.Goals as goal

pub returns-then-not-holds : goal.returns-then-not-holds
returns-then-not-holds c = no-row (opcode_seen c.args.opcode) (state_of c.args.state.now) c.args.table.now (sym c.holds.ensures ∙ c.if-not-holds.true)

pub returns-in-Err : goal.returns-in-Err
returns-in-Err c =
    handed-on (Refuses (ReachesAll (opcode_seen c.args.opcode) (state_of c.enter.new.state)) c.args.table.now) (Refuses (GoesOn (opcode_seen c.args.opcode) (state_of c.args.state.now)) c.args.table.now) _
    (pass-refused (opcode_seen c.args.opcode) (state_of c.args.state.now) (state_of c.enter.new.state) c.args.table.now (sym c.holds.ensures ∙ c.if-not-holds.false) c.enter.ensures) c.in-Err.ensures

pub returns-in_ok-leave-in-Ok : goal.returns-in_ok-leave-in-Ok
returns-in_ok-leave-in-Ok c =
    passes (opcode_seen c.args.opcode) (state_of c.args.state.now) (state_of c.enter.new.state) _ c.args.table.now c.reach_all.new.table
    (sym c.holds.ensures ∙ c.if-not-holds.false) c.enter.ensures c.in_ok-leave-in-Ok.ensures c.requires.names_known c.requires.tags_known c.in-Ok.ensures

pub reach_all-requires : goal.reach_all-requires
reach_all-requires c = record {
  names_known = c.requires.names_known;
  tags_known = subst (TagsKnown (known c.args.table.now)) (sym c.enter.ensures) (entered-known (known c.args.table.now) (opcode_seen c.args.opcode) (state_of c.args.state.now) c.requires.tags_known);
}
