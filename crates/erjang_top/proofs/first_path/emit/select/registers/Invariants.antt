use Rattle.std.proofs.Common.{◌≡◌, ◌≤◌, true, max, map, drop}
use Rattle.std.specs.List.{AllByRecursion}
use Rattle.erjang_top.specs.first_path.Opcode.{opcode}
use Rattle.erjang_top.specs.first_path.Accepted.{is_thin_opcode}
use Rattle.erjang_top.specs.first_path.ModuleClass.{registers}
use Rattle.erjang_top.proofs.first_path.emit.select.registers.Given as goal

abbrev pub invariant-loop-instr : goal.invariant-loop-instr
invariant-loop-instr l = record {
  small : l.count ≤ 1024;
  rest_thin : AllByRecursion (λ o. is_thin_opcode o ≡ true) (map opcode (drop l.instr-index l.code));
  counted : max l.count (registers (map opcode (drop l.instr-index l.code))) ≡ registers (map opcode l.code);
}
