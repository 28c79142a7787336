use Rattle.std.proofs.Common.{◌≡◌, drop, map, fold}
use Rattle.std.specs.List.{filter_map}
use Rattle.erjang_top.specs.first_path.Opcode.{opcode}
use Rattle.erjang_top.specs.first_path.Weights.{value_in, with_value}
use Rattle.erjang_top.specs.first_path.SeenValues.{seen_value}
use Rattle.erjang_top.proofs.first_path.values.add_values.Given as goal

abbrev pub invariant-loop-instr : goal.invariant-loop-instr
invariant-loop-instr l =
    fold with_value (map seen_value l.values.keys) (filter_map value_in (map opcode (drop l.instr-index l.code)))
    ≡ fold with_value (map seen_value l.initial.values.keys) (filter_map value_in (map opcode l.code))
