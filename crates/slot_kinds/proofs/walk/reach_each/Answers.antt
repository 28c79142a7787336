use Rattle.std.proofs.Common.{get_or}
use Rattle.beam_code.specs.Good.{GoesTo}
use Rattle.beam_code.specs.Slots.{state_of}
use Rattle.slot_kinds.specs.Tables.{Refuses}
use Rattle.slot_kinds.specs.Walks.{ReachesEach}
use Rattle.slot_kinds.proofs.AnswerLaw.{handed-on}
use Rattle.slot_kinds.proofs.GoesLaw.{goes-none}
use Rattle.slot_kinds.proofs.WalkLaw.{each-more, each-refused}
use Rattle.std.proofs.Common.{◌≡◌, ◌∙◌, ℕ, Bool, drop, ap, sym, subst}
use Rattle.slot_kinds.specs.Tags.{TagsKnown}
use Rattle.slot_kinds.specs.Tables.{known}
use Rattle.slot_kinds.proofs.TagsLaw.{known-at}
use Rattle.slot_kinds.proofs.GoesLaw.{same-known}
use Rattle.slot_kinds.proofs.walk.reach_each.Goals as goal

pub loop-label-init : goal.loop-label-init
loop-label-init c = goes-none (ReachesEach (state_of c.args.state.now) c.args.labels.now) c.args.table.now

pub returns-in-Err : goal.returns-in-Err
returns-in-Err c =
    handed-on (Refuses (λ at. GoesTo at (get_or c.args.labels.now c.loop-label.label-index 0, state_of c.args.state.now)) c.loop-label.table)
    (Refuses (ReachesEach (state_of c.args.state.now) c.args.labels.now) c.args.table.now) _
    (each-refused (state_of c.args.state.now) c.args.labels.now c.loop-label.label-index 0 c.args.table.now c.loop-label.table c.loop-label-test.true c.loop-label.invariant) c.in-Err.ensures

pub loop-label-preserved : goal.loop-label-preserved
loop-label-preserved c =
    each-more (state_of c.args.state.now) c.args.labels.now c.loop-label.label-index 0 c.args.table.now c.loop-label.table c.reach.new.self c.loop-label-test.true c.loop-label.invariant c.in-Ok.ensures

pub reach-requires : goal.reach-requires
reach-requires c =
    let same : known c.loop-label.table ≡ known c.args.table.now = same-known (ReachesEach (state_of c.args.state.now) c.args.labels.now) (ReachesEach (state_of c.args.state.now) (drop c.loop-label.label-index c.args.labels.now)) c.args.table.now c.loop-label.table c.loop-label.invariant in
    record {
      label_known = ap (λ (q : ℕ → Bool). q (get_or c.args.labels.now c.loop-label.label-index 0)) same ∙ known-at (known c.args.table.now) c.args.labels.now c.loop-label.label-index c.loop-label-test.true c.requires.labels_known;
      tags_known = subst (λ q. TagsKnown q (state_of c.args.state.now)) (sym same) c.requires.tags_known;
    }
