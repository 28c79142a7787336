use Rattle.std.proofs.Common.{◌+◌, map, drop, ap, subst, ◌∙◌}
use Rattle.std.specs.Prelude.{◌↔◌, ◌⊎◌}
use Rattle.std.specs.List.{flat_map}
use Rattle.std.proofs.lemmas.List.Concat.{flat_map-append}
use Rattle.beam_code.specs.Code.{function_code, opcode}
use Rattle.beam_code.specs.Pool.{Ext, IsAmong, externals_in}
use Rattle.slot_kinds.specs.Named.{Gains, code_in}
use Rattle.slot_kinds.proofs.Different.{gains-left, gained-all, same_external, external-means, external-itself}
use Rattle.slot_kinds.proofs.Left.{left-more, left-none}
use Rattle.slot_kinds.proofs.named.external_count.Goals as goal

pub loop-function-preserved : goal.loop-function-preserved
loop-function-preserved c =
    let fs = c.args.functions.now in
    let rest = code_in (map function_code (drop (c.loop-function.function-index + 1) fs)) in
    let e = left-more function_code fs c.loop-function.function-index c.function-item.result c.loop-function-test.true c.function-item.is in
    let has = c.loop-function.seen.keys in
    let all = flat_map externals_in (code_in (map function_code fs)) in
    gains-left (λ (x : Ext). IsAmong x all) has c.add_calls.new.seen.keys (flat_map externals_in (map opcode c.function-item.result.code)) (flat_map externals_in rest)
    (subst (λ code. Gains has c.add_calls.new.seen.keys (flat_map externals_in (map opcode code))) c.as_slice.ensures c.in_ok-add_calls.ensures)
    (subst (λ left. (x : Ext) → (IsAmong x has ⊎ IsAmong x left) ↔ IsAmong x all)
    (ap (λ gs. flat_map externals_in (code_in gs)) e ∙ flat_map-append externals_in (map opcode c.function-item.result.code) rest)
    c.loop-function.invariant)

pub returns : goal.returns
returns c =
    gained-all same_external external-means external-itself c.loop-function.seen.keys (flat_map externals_in (code_in (map function_code (drop c.loop-function.function-index c.args.functions.now))))
    (flat_map externals_in (code_in (map function_code c.args.functions.now))) c.len.result c.len.ensures.unique
    (ap (λ fs. flat_map externals_in (code_in fs)) (left-none function_code c.args.functions.now c.loop-function.function-index c.loop-function-test.false))
    c.loop-function.invariant c.len.ensures.len
