use Rattle.std.proofs.Common.{◌≡◌, ◌+◌, false, nat_eq, map, drop}
use Rattle.std.specs.Prelude.{option_map}
use Rattle.indexmap.specs.IndexSet.{contains}
use Rattle.beam_code.specs.Code.{opcode}
use Rattle.beam_code.specs.Good.{assignment_of}
use Rattle.beam_code.specs.Slots.{state_of}
use Rattle.beam_code.specs.Weights.{saturated}
use Rattle.slot_kinds.specs.Walked.{weighed_from}
use Rattle.slot_kinds.proofs.function.rest_weight.Given as goal

abbrev pub invariant-loop-instr : goal.invariant-loop-instr
invariant-loop-instr l = record {
  within : saturated l.total ≡ l.total;
  same :
      saturated (l.total + weighed_from l.wide (assignment_of l.map) (contains nat_eq l.passed) (option_map state_of l.state) (map opcode (drop l.instr-index l.code)))
      ≡ saturated (weighed_from l.wide (assignment_of l.map) (λ label. false) (option_map state_of l.fn.before) (map opcode l.code));
}
