use Rattle.std.proofs.Common.{◌≡◌, ◌∙◌, ap, subst, refl, Bor, Option, None, Some}
use Rattle.std.specs.Prelude.{unwrap_or, option_copied}
use Rattle.beam_code.specs.declared.kind.Kind.{Kind}
use Rattle.beam_code.specs.declared.kind.Kind.TheVariants.{Undefined}
use Rattle.slot_kinds.specs.declared.join.Met.{Met}
use Rattle.slot_kinds.specs.Answer.{Answers}
use Rattle.slot_kinds.specs.Joins.{IsMet, NoJoinKind}
use Rattle.slot_kinds.proofs.join.meet_listed.Goals as goal

now-of : (o : Option (Bor Kind)) (d : Bor Kind) → (unwrap_or o d).now ≡ unwrap_or (option_copied o) d.now
now-of None d = refl
now-of (Some x) d = refl

pub returns : goal.returns
returns c =
    let one : c.unwrap_or.result.now ≡ unwrap_or (option_copied c.args.kind) Undefined = ap (λ x. x.now) c.unwrap_or.ensures ∙ now-of c.args.kind _ in
    let other : c.unwrap_or-2.result.now ≡ unwrap_or (option_copied c.args.other) Undefined = ap (λ x. x.now) c.unwrap_or-2.ensures ∙ now-of c.args.other _ in
    subst (λ a. Answers {A = Met} (λ m. IsMet a (unwrap_or (option_copied c.args.other) Undefined) m.kind m.changed) (NoJoinKind a (unwrap_or (option_copied c.args.other) Undefined)) c.meet.result) one
    (subst (λ b. Answers {A = Met} (λ m. IsMet c.unwrap_or.result.now b m.kind m.changed) (NoJoinKind c.unwrap_or.result.now b) c.meet.result) other c.meet.ensures)
