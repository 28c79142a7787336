use Rattle.std.proofs.Common.{drop, map, Some}
use Rattle.beam_code.specs.Code.{opcode}
use Rattle.beam_code.specs.Slots.{state_of}
use Rattle.slot_kinds.specs.Tables.{known, Goes}
use Rattle.slot_kinds.specs.Tags.{TagsKnown}
use Rattle.slot_kinds.specs.Walks.{KeepsFrom}
use Rattle.slot_kinds.proofs.walk.walk.Given as goal

abbrev pub invariant-loop-instr : goal.invariant-loop-instr
invariant-loop-instr l = record {
  goes : Goes (KeepsFrom (map opcode l.code) (Some (state_of l.initial.state))) (KeepsFrom (drop l.instr-index (map opcode l.code)) (Some (state_of l.state))) l.initial.table l.table;
  tags : TagsKnown (known l.table) (state_of l.state);
}
