use Rattle.std.proofs.Common.{◌∷◌, [], sym, subst}
use Rattle.slot_kinds.specs.Named.{Gains}
use Rattle.slot_kinds.proofs.Different.{same_external, external-means, external-itself, inserted}
use Rattle.slot_kinds.proofs.named.add_external.Goals as goal

pub returns : goal.returns
returns c =
    subst (λ o. Gains c.args.seen.now.keys c.insert.new.self.keys ((o, c.args.external.name.now, c.args.external.arity) ∷ [])) (sym c.in_ok-owner.ensures.cases)
    (subst (λ n. Gains c.args.seen.now.keys c.insert.new.self.keys ((c.in_ok-owner.owner, n, c.args.external.arity) ∷ [])) (sym c.in_ok-name.ensures.cases)
    (inserted same_external external-means external-itself c.args.seen.now.keys c.insert.new.self.keys _ c.in_ok-insert.ensures.keys))
