use Rattle.std.proofs.Common.{◌∷◌, [], ◌+◌, map, drop, ap, subst}
use Rattle.std.specs.Prelude.{◌↔◌, ◌⊎◌}
use Rattle.std.proofs.lemmas.List.{drop_all}
use Rattle.beam_code.specs.declared.operand.Src.{Src}
use Rattle.beam_code.specs.Pool.{IsAmong}
use Rattle.slot_kinds.specs.Named.{values}
use Rattle.slot_kinds.proofs.Different.{gains-left, gained-end}
use Rattle.slot_kinds.proofs.ValuesLaw.{values-left-of}
use Rattle.slot_kinds.proofs.values.add_keys.Goals as goal

pub loop-key-preserved : goal.loop-key-preserved
loop-key-preserved c =
    let xs = c.args.gets.now in
    let has = c.loop-key.seen.keys in
    let e = values-left-of (λ g. g.0) xs c.loop-key.key-index c.loop-key-item.result c.loop-key-test.true c.loop-key-item.is in
    gains-left (λ (x : Src). IsAmong x c.args.seen.now.keys ⊎ IsAmong x (values (map (λ g. g.0) xs))) has c.add.new.seen.keys (values (c.loop-key-item.result.0 ∷ [])) (values (map (λ g. g.0) (drop (c.loop-key.key-index + 1) xs)))
    c.in_ok-add.ensures
    (subst (λ left. (x : Src) → (IsAmong x has ⊎ IsAmong x left) ↔ (IsAmong x c.args.seen.now.keys ⊎ IsAmong x (values (map (λ g. g.0) xs)))) e c.loop-key.invariant)

pub returns : goal.returns
returns c =
    let xs = c.args.gets.now in
    gained-end (λ (x : Src). IsAmong x c.args.seen.now.keys ⊎ IsAmong x (values (map (λ g. g.0) xs))) c.loop-key.seen.keys (values (map (λ g. g.0) (drop c.loop-key.key-index xs)))
    (ap (λ ys. values (map (λ g. g.0) ys)) (drop_all c.loop-key.key-index xs c.loop-key-test.false))
    c.loop-key.invariant
