use Rattle.std.proofs.Common.{subst, sym}
use Rattle.slot_kinds.specs.Joins.{IsMet}
use Rattle.slot_kinds.proofs.JoinLaw.{met-tags, few-enough}
use Rattle.beam_code.specs.declared.kind.Kind.TheVariants.{Tag}
use Rattle.slot_kinds.proofs.join.meet_tags.Goals as goal

pub returns : goal.returns
returns c =
    subst (λ all. IsMet (Tag c.args.labels.now) (Tag c.args.others.now) (Tag all) c.in_ok-all.changed) (sym c.from_vec.ensures)
    (met-tags c.args.labels.now c.args.others.now c.in_ok-all.all.items c.in_ok-all.changed (few-enough _ _ _ c.in_ok-all.all.ok.0 c.in_ok-all.all.ok.1 c.in_ok-all.all.small) c.in_ok-all.ensures)
