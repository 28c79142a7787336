use Rattle.std.proofs.Common.{◌∷◌, [], ◌+◌, map, drop, ap, subst}
use Rattle.std.specs.Prelude.{◌↔◌, ◌⊎◌}
use Rattle.std.proofs.lemmas.List.{drop_all}
use Rattle.beam_code.specs.declared.operand.Src.{Src}
use Rattle.beam_code.specs.Pool.{IsAmong}
use Rattle.slot_kinds.specs.Named.{values}
use Rattle.slot_kinds.proofs.Different.{gains-left, gained-end}
use Rattle.slot_kinds.proofs.ValuesLaw.{values-left-of}
use Rattle.slot_kinds.proofs.values.add_cases.Goals as goal

pub loop-value-preserved : goal.loop-value-preserved
loop-value-preserved c =
    let xs = c.args.cases.now in
    let has = c.loop-value.seen.keys in
    let e = values-left-of (λ k. k.0) xs c.loop-value.value-index c.loop-value-item.result c.loop-value-test.true c.loop-value-item.is in
    gains-left (λ (x : Src). IsAmong x c.args.seen.now.keys ⊎ IsAmong x (values (map (λ k. k.0) xs))) has c.add.new.seen.keys (values (c.loop-value-item.result.0 ∷ [])) (values (map (λ k. k.0) (drop (c.loop-value.value-index + 1) xs)))
    c.in_ok-add.ensures
    (subst (λ left. (x : Src) → (IsAmong x has ⊎ IsAmong x left) ↔ (IsAmong x c.args.seen.now.keys ⊎ IsAmong x (values (map (λ k. k.0) xs)))) e c.loop-value.invariant)

pub returns : goal.returns
returns c =
    let xs = c.args.cases.now in
    gained-end (λ (x : Src). IsAmong x c.args.seen.now.keys ⊎ IsAmong x (values (map (λ k. k.0) xs))) c.loop-value.seen.keys (values (map (λ k. k.0) (drop c.loop-value.value-index xs)))
    (ap (λ ys. values (map (λ k. k.0) ys)) (drop_all c.loop-value.value-index xs c.loop-value-test.false))
    c.loop-value.invariant
