use Rattle.std.proofs.Common.{map, drop}
use Rattle.std.specs.Prelude.{◌↔◌, ◌⊎◌}
use Rattle.std.specs.List.{flat_map}
use Rattle.beam_code.specs.Code.{opcode}
use Rattle.beam_code.specs.declared.operand.Src.{Src}
use Rattle.beam_code.specs.Pool.{IsAmong, values_in}
use Rattle.slot_kinds.proofs.values.add_code.Given as goal

abbrev pub invariant-loop-instr : goal.invariant-loop-instr
invariant-loop-instr l =
    (e : Src) → (IsAmong e l.seen.keys ⊎ IsAmong e (flat_map values_in (map opcode (drop l.instr-index l.code))))
    ↔ (IsAmong e l.initial.seen.keys ⊎ IsAmong e (flat_map values_in (map opcode l.code)))
