use Rattle.std.proofs.Common.{◌≡◌, ℕ, List, ◌∷◌, map, sym, ap, subst, ◌∙◌}
use Rattle.beam_code.specs.declared.operand.Src.{Src}
use Rattle.beam_code.specs.FlowParts.{labels_gone}
use Rattle.beam_code.specs.FlowSeen.{with_first}
use Rattle.beam_code.specs.Good.{GoesTo}
use Rattle.beam_code.specs.Seen.{opcode_seen}
use Rattle.beam_code.specs.Slots.{state_of}
use Rattle.slot_kinds.specs.Walks.{ReachesEach}
use Rattle.slot_kinds.proofs.GoesLaw.{goes-first, Outcome, outcome-then}
use Rattle.slot_kinds.specs.Tags.{AreKnown, TagsKnown}
use Rattle.slot_kinds.specs.Tables.{known, Nothing}
use Rattle.slot_kinds.proofs.TagsLaw.{known-first, known-rest}
use Rattle.slot_kinds.proofs.GoesLaw.{same-known}
use Rattle.slot_kinds.proofs.walk.reach_branches.Goals as goal

pub returns-in-Ok : goal.returns-in-Ok
returns-in-Ok c =
    let cases : List ℕ = map (λ (c : Src × ℕ). c.1) c.branches_of-branches.result.cases.now in
    let gone : labels_gone (opcode_seen c.args.opcode) ≡ c.in-Some.label ∷ cases = sym c.branches_of-branches.ensures ∙ ap (λ first. with_first first cases) c.in-Some.is in
    subst (λ ls. Outcome (ReachesEach (state_of c.args.state.now) ls) c.args.table.now c.reach_cases-in-Ok.new.table c.reach_cases-in-Ok.result) (sym gone)
    (outcome-then (ReachesEach (state_of c.args.state.now) (c.in-Some.label ∷ cases)) (ReachesEach (state_of c.args.state.now) cases) c.args.table.now c.reach.new.self c.reach_cases-in-Ok.new.table c.reach_cases-in-Ok.result
    (goes-first (λ at. GoesTo at (c.in-Some.label, state_of c.args.state.now)) (ReachesEach (state_of c.args.state.now) cases) c.args.table.now c.reach.new.self c.in-Ok.ensures) c.reach_cases-in-Ok.ensures)

pub reach_cases-requires : goal.reach_cases-requires
reach_cases-requires c =
    let cases : List ℕ = map (λ (c : Src × ℕ). c.1) c.branches_of-branches.result.cases.now in
    record {
      labels_known = subst (AreKnown (known c.args.table.now)) (sym c.branches_of-branches.ensures ∙ ap (λ first. with_first first cases) c.in-None.is) c.requires.labels_known;
      tags_known = c.requires.tags_known;
    }

pub reach-requires : goal.reach-requires
reach-requires c =
    let cases : List ℕ = map (λ (c : Src × ℕ). c.1) c.branches_of-branches.result.cases.now in
    record {
      label_known = known-first (known c.args.table.now) c.in-Some.label cases (subst (AreKnown (known c.args.table.now)) (sym c.branches_of-branches.ensures ∙ ap (λ first. with_first first cases) c.in-Some.is) c.requires.labels_known);
      tags_known = c.requires.tags_known;
    }

pub reach_cases-requires-in-Ok : goal.reach_cases-requires-in-Ok
reach_cases-requires-in-Ok c =
    let cases : List ℕ = map (λ (c : Src × ℕ). c.1) c.branches_of-branches.result.cases.now in
    let same : known c.reach.new.self ≡ known c.args.table.now = same-known (λ at. GoesTo at (c.in-Some.label, state_of c.args.state.now)) Nothing c.args.table.now c.reach.new.self c.in-Ok.ensures in
    record {
      labels_known =
          subst (λ q. AreKnown q cases) (sym same)
          (known-rest (known c.args.table.now) c.in-Some.label cases (subst (AreKnown (known c.args.table.now)) (sym c.branches_of-branches.ensures ∙ ap (λ first. with_first first cases) c.in-Some.is) c.requires.labels_known));
      tags_known = subst (λ q. TagsKnown q (state_of c.args.state.now)) (sym same) c.requires.tags_known;
    }
