use Rattle.std.proofs.Common.{[], sym, subst, ◌∙◌}
use Rattle.std.specs.Prelude.{if◌then◌else◌}
use Rattle.beam_code.specs.Flow.{all_ways, raised_from}
use Rattle.beam_code.specs.FlowParts.{labels_gone}
use Rattle.beam_code.specs.Good.{GoToEach}
use Rattle.beam_code.specs.Seen.{opcode_seen}
use Rattle.beam_code.specs.Slots.{state_of}
use Rattle.slot_kinds.specs.Walks.{ReachesEach}
use Rattle.slot_kinds.proofs.GoesLaw.{goes-first, Outcome, outcome-then}
use Rattle.slot_kinds.specs.Tags.{TagsKnown}
use Rattle.slot_kinds.specs.Tables.{known, Nothing}
use Rattle.slot_kinds.proofs.TagsLaw.{gone-known}
use Rattle.slot_kinds.proofs.GoesLaw.{same-known}
use Rattle.slot_kinds.proofs.walk.reach_all.Goals as goal

pub returns-then-may_raise : goal.returns-then-may_raise
returns-then-may_raise c =
    subst (λ b. Outcome (λ at. GoToEach at (all_ways (state_of c.args.state.now) (labels_gone (opcode_seen c.args.opcode))) × GoToEach at (if b then raised_from (state_of c.args.state.now) else []))
    c.args.table.now c.reach_handlers.new.table c.reach_handlers.result) (sym c.if-may_raise.true ∙ c.may_raise.ensures)
    (outcome-then (λ at. GoToEach at (all_ways (state_of c.args.state.now) (labels_gone (opcode_seen c.args.opcode))) × GoToEach at (raised_from (state_of c.args.state.now))) (λ at. GoToEach at (raised_from (state_of c.args.state.now)))
    c.args.table.now c.reach_branches.new.table c.reach_handlers.new.table c.reach_handlers.result
    (goes-first (ReachesEach (state_of c.args.state.now) (labels_gone (opcode_seen c.args.opcode))) (λ at. GoToEach at (raised_from (state_of c.args.state.now))) c.args.table.now c.reach_branches.new.table c.in-Ok.ensures)
    c.reach_handlers.ensures)

pub reach_branches-requires : goal.reach_branches-requires
reach_branches-requires c = record {
  labels_known = gone-known (known c.args.table.now) (opcode_seen c.args.opcode) c.requires.names_known;
  tags_known = c.requires.tags_known;
}

pub reach_handlers-requires : goal.reach_handlers-requires
reach_handlers-requires c =
    subst (λ q. TagsKnown q (state_of c.args.state.now)) (sym (same-known (ReachesEach (state_of c.args.state.now) (labels_gone (opcode_seen c.args.opcode))) Nothing c.args.table.now c.reach_branches.new.table c.in-Ok.ensures)) c.requires.tags_known
