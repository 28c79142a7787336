use Rattle.std.proofs.Common.{◌+◌, map, drop, ap, subst, ◌∙◌}
use Rattle.std.specs.Prelude.{◌↔◌, ◌⊎◌}
use Rattle.std.specs.List.{flat_map}
use Rattle.beam_code.specs.Code.{opcode}
use Rattle.beam_code.specs.declared.operand.Src.{Src}
use Rattle.beam_code.specs.Pool.{IsAmong, values_in}
use Rattle.slot_kinds.specs.Named.{Gains, values}
use Rattle.slot_kinds.proofs.Different.{gains-left, gained-end}
use Rattle.slot_kinds.proofs.Left.{left-more, left-none}
use Rattle.slot_kinds.proofs.values.add_code.Goals as goal

pub loop-instr-preserved : goal.loop-instr-preserved
loop-instr-preserved c =
    let e = left-more opcode c.args.code.now c.loop-instr.instr-index c.instr-item.result c.loop-instr-test.true c.instr-item.is in
    let has = c.loop-instr.seen.keys in
    gains-left (λ (x : Src). IsAmong x c.args.seen.now.keys ⊎ IsAmong x (flat_map values_in (map opcode c.args.code.now))) has c.add_sources.new.seen.keys (values_in (opcode c.instr-item.result))
    (flat_map values_in (map opcode (drop (c.loop-instr.instr-index + 1) c.args.code.now)))
    (subst (Gains has c.add_sources.new.seen.keys) (ap values c.sources_of.ensures ∙ ap values_in c.opcode.ensures) c.in_ok-add_sources.ensures)
    (subst (λ code. (x : Src) → (IsAmong x has ⊎ IsAmong x (flat_map values_in code)) ↔ (IsAmong x c.args.seen.now.keys ⊎ IsAmong x (flat_map values_in (map opcode c.args.code.now)))) e c.loop-instr.invariant)

pub returns : goal.returns
returns c =
    gained-end (λ (x : Src). IsAmong x c.args.seen.now.keys ⊎ IsAmong x (flat_map values_in (map opcode c.args.code.now))) c.loop-instr.seen.keys
    (flat_map values_in (map opcode (drop c.loop-instr.instr-index c.args.code.now)))
    (ap (flat_map values_in) (left-none opcode c.args.code.now c.loop-instr.instr-index c.loop-instr-test.false))
    c.loop-instr.invariant
