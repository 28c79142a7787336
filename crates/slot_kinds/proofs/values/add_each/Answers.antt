use Rattle.std.proofs.Common.{◌∷◌, [], ◌+◌, drop, ap, subst}
use Rattle.std.specs.Prelude.{◌↔◌, ◌⊎◌}
use Rattle.std.proofs.lemmas.List.{drop_all}
use Rattle.beam_code.specs.declared.operand.Src.{Src}
use Rattle.beam_code.specs.Pool.{IsAmong}
use Rattle.slot_kinds.specs.Named.{values}
use Rattle.slot_kinds.proofs.Different.{gains-left, gained-end}
use Rattle.slot_kinds.proofs.ValuesLaw.{values-left}
use Rattle.slot_kinds.proofs.values.add_each.Goals as goal

pub loop-source-preserved : goal.loop-source-preserved
loop-source-preserved c =
    let xs = c.args.sources.now in
    let has = c.loop-source.seen.keys in
    let e = values-left xs c.loop-source.source-index c.source-item.result c.loop-source-test.true c.source-item.is in
    gains-left (λ (x : Src). IsAmong x c.args.seen.now.keys ⊎ IsAmong x (values xs)) has c.add.new.seen.keys (values (c.source-item.result ∷ [])) (values (drop (c.loop-source.source-index + 1) xs))
    c.in_ok-add.ensures
    (subst (λ left. (x : Src) → (IsAmong x has ⊎ IsAmong x left) ↔ (IsAmong x c.args.seen.now.keys ⊎ IsAmong x (values xs))) e c.loop-source.invariant)

pub returns : goal.returns
returns c =
    let xs = c.args.sources.now in
    gained-end (λ (x : Src). IsAmong x c.args.seen.now.keys ⊎ IsAmong x (values xs)) c.loop-source.seen.keys (values (drop c.loop-source.source-index xs))
    (ap values (drop_all c.loop-source.source-index xs c.loop-source-test.false))
    c.loop-source.invariant
