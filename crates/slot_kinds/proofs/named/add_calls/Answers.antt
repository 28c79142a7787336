use Rattle.std.proofs.Common.{◌+◌, map, drop, ap, subst, ◌∙◌}
use Rattle.std.specs.Prelude.{◌↔◌, ◌⊎◌}
use Rattle.std.specs.List.{flat_map}
use Rattle.beam_code.specs.Code.{opcode}
use Rattle.beam_code.specs.Pool.{Ext, IsAmong, externals_in}
use Rattle.slot_kinds.specs.Named.{Gains}
use Rattle.slot_kinds.proofs.Different.{gains-left, gained-end}
use Rattle.slot_kinds.proofs.Left.{left-more, left-none}
use Rattle.slot_kinds.proofs.named.add_calls.Goals as goal

pub loop-instr-preserved : goal.loop-instr-preserved
loop-instr-preserved c =
    let e = left-more opcode c.args.code.now c.loop-instr.instr-index c.instr-item.result c.loop-instr-test.true c.instr-item.is in
    let has = c.loop-instr.seen.keys in
    gains-left (λ (x : Ext). IsAmong x c.args.seen.now.keys ⊎ IsAmong x (flat_map externals_in (map opcode c.args.code.now))) has c.add_call.new.seen.keys (externals_in (opcode c.instr-item.result))
    (flat_map externals_in (map opcode (drop (c.loop-instr.instr-index + 1) c.args.code.now)))
    (subst (Gains has c.add_call.new.seen.keys) (c.external_of.ensures ∙ ap externals_in c.opcode.ensures) c.in_ok-add_call.ensures)
    (subst (λ code. (x : Ext) → (IsAmong x has ⊎ IsAmong x (flat_map externals_in code)) ↔ (IsAmong x c.args.seen.now.keys ⊎ IsAmong x (flat_map externals_in (map opcode c.args.code.now)))) e c.loop-instr.invariant)

pub returns : goal.returns
returns c =
    gained-end (λ (x : Ext). IsAmong x c.args.seen.now.keys ⊎ IsAmong x (flat_map externals_in (map opcode c.args.code.now))) c.loop-instr.seen.keys
    (flat_map externals_in (map opcode (drop c.loop-instr.instr-index c.args.code.now)))
    (ap (flat_map externals_in) (left-none opcode c.args.code.now c.loop-instr.instr-index c.loop-instr-test.false))
    c.loop-instr.invariant
