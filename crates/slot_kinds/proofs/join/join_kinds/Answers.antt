use Rattle.std.proofs.Common.{◌≡◌, ◌+◌, ◌∙◌, ap, sym, subst, arith, true}
use Rattle.std.specs.Prelude.{if◌then◌else◌, unwrap_or, option_copied}
use Rattle.beam_code.specs.declared.kind.Kind.TheVariants.{Undefined}
use Rattle.beam_code.specs.Slots.{listed}
use Rattle.slot_kinds.specs.Joins.{IsMet, AreMetTo, NoJoinKind, Clash}
use Rattle.slot_kinds.proofs.JoinLaw.{met-more, met-all}
use Rattle.slot_kinds.proofs.AnswerLaw.{handed-on}
use Rattle.slot_kinds.proofs.join.join_kinds.Goals as goal
use Rattle.slot_kinds.proofs.join.join_kinds.Goals.{then-met, else-met}

pub returns-in-Err : goal.returns-in-Err
returns-in-Err c =
    handed-on (NoJoinKind (unwrap_or (option_copied c.get.result) Undefined) (unwrap_or (option_copied c.get-in-loop-at.result) Undefined)) (Clash c.args.kinds.now c.args.others.now) c.in-Err.fault
    (λ no. (
      c.loop-at.at,
      subst (λ x. NoJoinKind x (listed c.args.others.now c.loop-at.at)) (c.get.ensures.lookup.4 (omega arith) Undefined)
          (subst (λ x. NoJoinKind (unwrap_or (option_copied c.get.result) Undefined) x) (c.get-in-loop-at.ensures.lookup.4 (omega arith) Undefined) no),
    ))
    c.in-Err.ensures

pub loop-at-preserved : goal.loop-at-preserved
loop-at-preserved c =
    let told : c.if-met.changed ≡ (if c.in-Ok.met.changed then true else c.loop-at.changed) =
    elim c.if-met.branch [
      | then-met w ↦ w.changed-is ∙ ap (λ b. if b then true else c.loop-at.changed) (sym w.if-met.true)
      | else-met w ↦ w.changed-is ∙ ap (λ b. if b then true else c.loop-at.changed) (sym w.if-met.false)
    ] in
    let met : IsMet (listed c.args.kinds.now c.loop-at.at) (listed c.args.others.now c.loop-at.at) c.in-Ok.met.kind c.in-Ok.met.changed =
    subst (λ x. IsMet x (listed c.args.others.now c.loop-at.at) c.in-Ok.met.kind c.in-Ok.met.changed) (c.get.ensures.lookup.4 (omega arith) Undefined)
    (subst (λ x. IsMet (unwrap_or (option_copied c.get.result) Undefined) x c.in-Ok.met.kind c.in-Ok.met.changed) (c.get-in-loop-at.ensures.lookup.4 (omega arith) Undefined) c.in-Ok.ensures) in
    subst (λ ks. AreMetTo (c.loop-at.at + 1) c.args.kinds.now c.args.others.now ks c.if-met.changed) (sym (c.in_ok-push-in-Ok.ensures.ok))
    (met-more c.loop-at.at c.args.kinds.now c.args.others.now c.loop-at.joined c.in-Ok.met.kind c.if-met.changed c.in-Ok.met.changed c.loop-at.changed c.loop-at.invariant met told c.requires.formed c.requires.others_formed)

pub returns : goal.returns
returns c =
    met-all c.loop-at.at c.args.kinds.now c.args.others.now c.loop-at.joined c.loop-at.changed c.loop-at.invariant (omega arith)
