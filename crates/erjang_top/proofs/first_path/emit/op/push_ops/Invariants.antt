use Rattle.std.proofs.Common.{◌≡◌, ◌++◌, map, drop}
use Rattle.std.specs.List.{flat_map, AllByRecursion}
use Rattle.erjang_top.specs.first_path.ClassFile.{op_bytes}
use Rattle.erjang_top.specs.first_path.Written.{op, op_fits}
use Rattle.erjang_top.proofs.first_path.emit.op.push_ops.Given as goal

abbrev pub invariant-loop-instruction : goal.invariant-loop-instruction
invariant-loop-instruction l = record {
  rest_fits : AllByRecursion op_fits (drop l.instruction-index l.instructions);
  written : l.code.items ++ flat_map op_bytes (map op (drop l.instruction-index l.instructions)) ≡ l.initial.code.items ++ flat_map op_bytes (map op l.instructions);
}
