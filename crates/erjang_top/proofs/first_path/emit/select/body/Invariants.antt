use Rattle.std.proofs.Common.{◌≡◌, length, map}
use Rattle.erjang_top.specs.first_path.Opcode.{opcode}
use Rattle.erjang_top.specs.first_path.ModuleClass.{behind, body}
use Rattle.erjang_top.proofs.first_path.emit.select.body.Given as goal

abbrev pub invariant-loop-instr : goal.invariant-loop-instr
invariant-loop-instr l = behind l.function.entry (map opcode l.rest) ≡ body l.function

abbrev pub decreases-loop-instr : goal.decreases-loop-instr
decreases-loop-instr l = length l.rest
