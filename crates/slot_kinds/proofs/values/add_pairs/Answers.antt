use Rattle.std.proofs.Common.{◌∷◌, ◌++◌, [], ◌+◌, drop, ap, subst}
use Rattle.std.specs.Prelude.{◌↔◌, ◌⊎◌}
use Rattle.std.proofs.lemmas.List.{drop_all}
use Rattle.beam_code.specs.declared.operand.Src.{Src}
use Rattle.beam_code.specs.Pool.{IsAmong, both}
use Rattle.slot_kinds.specs.Named.{values}
use Rattle.slot_kinds.proofs.Different.{gains-left, gained-end}
use Rattle.slot_kinds.proofs.ValuesLaw.{gains-then, values-left-pair}
use Rattle.slot_kinds.proofs.values.add_pairs.Goals as goal

pub loop-key-preserved : goal.loop-key-preserved
loop-key-preserved c =
    let xs = c.args.pairs.now in
    let has = c.loop-key.seen.keys in
    let e = values-left-pair xs c.loop-key.key-index c.loop-key-item.result c.loop-key-test.true c.loop-key-item.is in
    gains-left (λ (x : Src). IsAmong x c.args.seen.now.keys ⊎ IsAmong x (values (both xs))) has c.add-in-loop-key.new.seen.keys (values (c.loop-key-item.result.0 ∷ []) ++ values (c.loop-key-item.result.1 ∷ [])) (values (both (drop (c.loop-key.key-index + 1) xs)))
    (gains-then has c.add.new.seen.keys c.add-in-loop-key.new.seen.keys (values (c.loop-key-item.result.0 ∷ [])) (values (c.loop-key-item.result.1 ∷ [])) c.in_ok-add.ensures c.in_ok-add-2.ensures)
    (subst (λ left. (x : Src) → (IsAmong x has ⊎ IsAmong x left) ↔ (IsAmong x c.args.seen.now.keys ⊎ IsAmong x (values (both xs)))) e c.loop-key.invariant)

pub returns : goal.returns
returns c =
    let xs = c.args.pairs.now in
    gained-end (λ (x : Src). IsAmong x c.args.seen.now.keys ⊎ IsAmong x (values (both xs))) c.loop-key.seen.keys (values (both (drop c.loop-key.key-index xs)))
    (ap (λ ys. values (both ys)) (drop_all c.loop-key.key-index xs c.loop-key-test.false))
    c.loop-key.invariant
