use Rattle.std.proofs.Common.{◌≡◌, ◌++◌, true, map, drop}
use Rattle.std.specs.List.{flat_map, AllByRecursion}
use Rattle.erjang_top.specs.first_path.Opcode.{opcode}
use Rattle.erjang_top.specs.first_path.Accepted.{is_thin_opcode}
use Rattle.erjang_top.specs.first_path.ClassFile.{op_bytes}
use Rattle.erjang_top.specs.first_path.ModuleClass.{body_ops}
use Rattle.erjang_top.specs.first_path.SeenValues.{seen_value}
use Rattle.erjang_top.proofs.first_path.emit.select.push_body.Given as goal

abbrev pub invariant-loop-instr : goal.invariant-loop-instr
invariant-loop-instr l = record {
  rest_thin : AllByRecursion (λ o. is_thin_opcode o ≡ true) (map opcode (drop l.instr-index l.body));
  written : l.code.items ++ flat_map op_bytes (body_ops (map seen_value l.values.keys) (map opcode (drop l.instr-index l.body)))
      ≡ l.initial.code.items ++ flat_map op_bytes (body_ops (map seen_value l.values.keys) (map opcode l.body));
}
