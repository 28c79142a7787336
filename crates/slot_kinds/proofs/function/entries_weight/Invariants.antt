use Rattle.std.proofs.Common.{◌≡◌, ◌+◌, nat_eq, map, drop}
use Rattle.indexmap.specs.IndexSet.{contains}
use Rattle.beam_code.specs.Code.{opcode}
use Rattle.beam_code.specs.Good.{assignment_of}
use Rattle.beam_code.specs.Weights.{saturated}
use Rattle.slot_kinds.specs.Walked.{entries_of}
use Rattle.slot_kinds.proofs.function.entries_weight.Given as goal

abbrev pub invariant-loop-instr : goal.invariant-loop-instr
invariant-loop-instr l = record {
  within : saturated l.total ≡ l.total;
  same :
      saturated (l.total + entries_of (assignment_of l.map) (contains nat_eq l.entries) (map opcode (drop l.instr-index l.code)))
      ≡ saturated (entries_of (assignment_of l.map) (contains nat_eq l.entries) (map opcode l.code));
}
