use Rattle.std.proofs.Common.{sym, subst, ◌∙◌}
use Rattle.beam_code.specs.Flow.{caught, handlers}
use Rattle.beam_code.specs.Slots.{state_of}
use Rattle.slot_kinds.specs.Tables.{Goes, Nothing}
use Rattle.slot_kinds.specs.Walks.{ReachesEach}
use Rattle.slot_kinds.proofs.GoesLaw.{goes-none, Outcome}
use Rattle.slot_kinds.proofs.WalkLaw.{empty-is}
use Rattle.slot_kinds.specs.Tags.{AreKnown, TagsKnown}
use Rattle.slot_kinds.specs.Tables.{known}
use Rattle.slot_kinds.proofs.TagsLaw.{handlers-known}
use Rattle.slot_kinds.proofs.walk.reach_handlers.Goals as goal

pub returns-then-is_empty : goal.returns-then-is_empty
returns-then-is_empty c =
    subst (λ ls. Goes (ReachesEach (caught (state_of c.args.state.now)) ls) Nothing c.args.table.now c.args.table.now) (sym (empty-is c.handlers-handlers.result.now c.is_empty.result c.is_empty.ensures c.if-is_empty.true) ∙ c.handlers-handlers.ensures)
    (goes-none Nothing c.args.table.now)

pub returns : goal.returns
returns c =
    subst (λ s. Outcome (ReachesEach s (handlers (state_of c.args.state.now))) c.args.table.now c.reach_each.new.table c.reach_each.result) c.in_ok-caught.ensures
    (subst (λ ls. Outcome (ReachesEach (state_of c.in_ok-caught.caught) ls) c.args.table.now c.reach_each.new.table c.reach_each.result) c.handlers-handlers.ensures c.reach_each.ensures)

pub reach_each-requires : goal.reach_each-requires
reach_each-requires c = record {
  labels_known = subst (AreKnown (known c.args.table.now)) (sym c.handlers-handlers.ensures) (handlers-known (known c.args.table.now) (state_of c.args.state.now) c.requires);
  tags_known = subst (TagsKnown (known c.args.table.now)) (sym c.in_ok-caught.ensures) c.requires;
}
