use Rattle.std.proofs.Common.{◌≡◌, ◌<◌, ℕ, List, map, length, get_or, sym, ap, subst, ◌∙◌}
use Rattle.std.proofs.lemmas.List.{get_or-map, length-map}
use Rattle.beam_code.specs.declared.operand.Src.{Src}
use Rattle.beam_code.specs.Good.{GoesTo}
use Rattle.beam_code.specs.Slots.{state_of}
use Rattle.slot_kinds.specs.Tables.{Goes, Nothing, Refuses}
use Rattle.slot_kinds.specs.Walks.{ReachesEach}
use Rattle.slot_kinds.proofs.AnswerLaw.{handed-on}
use Rattle.slot_kinds.proofs.GoesLaw.{goes-none}
use Rattle.slot_kinds.proofs.WalkLaw.{each-more, each-refused}
use Rattle.std.proofs.Common.{Bool, drop}
use Rattle.slot_kinds.specs.Tags.{TagsKnown}
use Rattle.slot_kinds.specs.Tables.{known}
use Rattle.slot_kinds.proofs.TagsLaw.{known-at}
use Rattle.slot_kinds.proofs.GoesLaw.{same-known}
use Rattle.slot_kinds.proofs.walk.reach_cases.Goals as goal

abbrev labels : List (Src × ℕ) → List ℕ
labels cases = map (λ (c : Src × ℕ). c.1) cases

named : (cases : List (Src × ℕ)) (i : ℕ) (x : Src × ℕ) → i < length cases → x ≡ get_or cases i x → x.1 ≡ get_or (labels cases) i 0
named cases i x h e = ap (λ (c : Src × ℕ). c.1) e ∙ sym (get_or-map (λ (c : Src × ℕ). c.1) cases i x 0 h)

within : (cases : List (Src × ℕ)) (i : ℕ) → i < length cases → i < length (labels cases)
within cases i h = subst (λ n. i < n) (sym (length-map cases (λ (c : Src × ℕ). c.1))) h

pub loop-label-init : goal.loop-label-init
loop-label-init c = goes-none (ReachesEach (state_of c.args.state.now) (labels c.args.cases.now)) c.args.table.now

pub returns-in-Err : goal.returns-in-Err
returns-in-Err c =
    handed-on (Refuses (λ at. GoesTo at (c.loop-label-item.result.1, state_of c.args.state.now)) c.loop-label.table)
    (Refuses (ReachesEach (state_of c.args.state.now) (labels c.args.cases.now)) c.args.table.now) _
    (λ r. each-refused (state_of c.args.state.now) (labels c.args.cases.now) c.loop-label.label-index 0 c.args.table.now c.loop-label.table
    (within c.args.cases.now c.loop-label.label-index c.loop-label-test.true) c.loop-label.invariant
    (subst (λ l. Refuses (λ at. GoesTo at (l, state_of c.args.state.now)) c.loop-label.table) (named c.args.cases.now c.loop-label.label-index c.loop-label-item.result c.loop-label-test.true c.loop-label-item.is) r)) c.in-Err.ensures

pub loop-label-preserved : goal.loop-label-preserved
loop-label-preserved c =
    each-more (state_of c.args.state.now) (labels c.args.cases.now) c.loop-label.label-index 0 c.args.table.now c.loop-label.table c.reach.new.self
    (within c.args.cases.now c.loop-label.label-index c.loop-label-test.true) c.loop-label.invariant
    (subst (λ l. Goes (λ at. GoesTo at (l, state_of c.args.state.now)) Nothing c.loop-label.table c.reach.new.self) (named c.args.cases.now c.loop-label.label-index c.loop-label-item.result c.loop-label-test.true c.loop-label-item.is) c.in-Ok.ensures)

pub reach-requires : goal.reach-requires
reach-requires c =
    let same : known c.loop-label.table ≡ known c.args.table.now = same-known (ReachesEach (state_of c.args.state.now) (labels c.args.cases.now)) (ReachesEach (state_of c.args.state.now) (drop c.loop-label.label-index (labels c.args.cases.now))) c.args.table.now c.loop-label.table c.loop-label.invariant in
    record {
      label_known =
          ap (λ (q : ℕ → Bool). q c.loop-label-item.result.1) same
          ∙ ap (known c.args.table.now) (named c.args.cases.now c.loop-label.label-index c.loop-label-item.result c.loop-label-test.true c.loop-label-item.is)
          ∙ known-at (known c.args.table.now) (labels c.args.cases.now) c.loop-label.label-index (within c.args.cases.now c.loop-label.label-index c.loop-label-test.true) c.requires.labels_known;
      tags_known = subst (λ q. TagsKnown q (state_of c.args.state.now)) (sym same) c.requires.tags_known;
    }
