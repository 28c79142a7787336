use Rattle.std.proofs.Common.{map, sym, subst}
use Rattle.std.proofs.lemmas.Bool.{true≢false}
use Rattle.beam_code.specs.Code.{opcode}
use Rattle.slot_kinds.specs.Segments.{behind}
use Rattle.slot_kinds.specs.Tables.{ArePlaces, held, Refuses}
use Rattle.slot_kinds.specs.Walks.{KeepsFrom, KeepsEach}
use Rattle.slot_kinds.proofs.AnswerLaw.{handed-on}
use Rattle.slot_kinds.proofs.SettleLaw.{popped, settle-none, settle-more, settle-refused, settle-end, work-falls}
use Rattle.std.proofs.Common.{ℕ, Option}
use Rattle.std.specs.Prelude.{is_some}
use Rattle.slot_kinds.specs.Tags.{NamesKnown}
use Rattle.slot_kinds.proofs.settle.settle.Goals as goal

pub loop-label-init : goal.loop-label-init
loop-label-init c = record { settles = settle-none (map opcode c.args.code.now) c.args.table.now c.requires.quiet; tags = c.requires.tags_known }

pub revisit-requires : goal.revisit-requires
revisit-requires c = record {
  placed = subst (ArePlaces (map opcode c.args.code.now)) (sym c.loop-label.invariant.settles.stays) c.requires.placed;
  names_known = subst (λ (places : ℕ → Option ℕ). NamesKnown (λ l. is_some (places l)) (map opcode c.args.code.now)) (sym c.loop-label.invariant.settles.stays) c.requires.names_known;
  tags_known = c.loop-label.invariant.tags;
}

pub returns-in-Err : goal.returns-in-Err
returns-in-Err c =
    handed-on (Refuses (KeepsFrom (behind c.in-Some.label (map opcode c.args.code.now)) (held c.loop-label.table c.in-Some.label)) (popped c.loop-label.table c.pop_first.new.self)) (Refuses (KeepsEach (map opcode c.args.code.now)) c.args.table.now) _
    (settle-refused (map opcode c.args.code.now) c.args.table.now c.loop-label.table c.pop_first.new.self c.in-Some.label c.requires.placed c.loop-label.invariant.settles) c.in-Err.ensures

pub loop-label-preserved : goal.loop-label-preserved
loop-label-preserved c = record {
  settles = settle-more (map opcode c.args.code.now) c.args.table.now c.loop-label.table c.revisit.new.table c.pop_first.new.self c.in-Some.label c.requires.placed c.loop-label.invariant.settles c.in-Some.ensures.updates c.in-Ok.ensures;
  tags = c.in-Ok.ensures.tags c.loop-label.invariant.tags;
}

pub loop-label-smaller : goal.loop-label-smaller
loop-label-smaller c = work-falls c.loop-label.table c.revisit.new.table c.pop_first.new.self c.in-Some.label c.in-Some.ensures.removal c.in-Ok.ensures.works

pub returns : goal.returns
returns c = settle-end (map opcode c.args.code.now) c.args.table.now c.loop-label.table c.pop_first.new.self c.loop-label.invariant.settles c.in_default.ensures.unchanged (λ h. true≢false (sym (c.in_default.ensures.variant.1 h)))
