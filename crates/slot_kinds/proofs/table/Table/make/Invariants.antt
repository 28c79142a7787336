use Rattle.std.proofs.Common.{map}
use Rattle.std.specs.Ordering.{nat_cmp}
use Rattle.std.specs.BTreeMap.{get}
use Rattle.beam_code.specs.Code.{opcode}
use Rattle.slot_kinds.specs.Rows.{AreRows}
use Rattle.slot_kinds.proofs.table.Table.make.Given as goal

abbrev pub invariant-loop-index : goal.invariant-loop-index
invariant-loop-index l = AreRows (map opcode l.code) l.index (get nat_cmp l.rows)
