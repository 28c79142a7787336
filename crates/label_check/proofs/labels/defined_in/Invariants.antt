use Rattle.std.proofs.Common.{nat_eq, drop, map}
use Rattle.indexmap.specs.IndexSet.{contains}
use Rattle.beam_code.specs.Code.{opcode}
use Rattle.label_check.proofs.Defined.{Gathered}
use Rattle.label_check.proofs.labels.defined_in.Given as goal

abbrev pub invariant-loop-instr : goal.invariant-loop-instr
invariant-loop-instr l = Gathered (contains nat_eq l.labels) (map opcode (drop l.instr-index l.code)) (map opcode l.code)
