use Rattle.std.proofs.Common.{map, drop}
use Rattle.std.specs.Prelude.{◌↔◌, ◌⊎◌}
use Rattle.std.specs.List.{flat_map}
use Rattle.beam_code.specs.Code.{opcode}
use Rattle.beam_code.specs.Pool.{Ext, IsAmong, externals_in}
use Rattle.slot_kinds.proofs.named.add_calls.Given as goal

abbrev pub invariant-loop-instr : goal.invariant-loop-instr
invariant-loop-instr l =
    (e : Ext) → (IsAmong e l.seen.keys ⊎ IsAmong e (flat_map externals_in (map opcode (drop l.instr-index l.code))))
    ↔ (IsAmong e l.initial.seen.keys ⊎ IsAmong e (flat_map externals_in (map opcode l.code)))
