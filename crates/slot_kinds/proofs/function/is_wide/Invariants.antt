use Rattle.std.proofs.Common.{◌≡◌, map, drop}
use Rattle.beam_code.specs.Code.{opcode}
use Rattle.beam_code.specs.Good.{assignment_of}
use Rattle.beam_code.specs.Weights.{is_wide}
use Rattle.slot_kinds.proofs.function.is_wide.Given as goal

abbrev pub invariant-loop-instr : goal.invariant-loop-instr
invariant-loop-instr l = is_wide (assignment_of l.map) (map opcode (drop l.instr-index l.code)) ≡ is_wide (assignment_of l.map) (map opcode l.code)
