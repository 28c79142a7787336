use Rattle.std.proofs.Common.{◌≡◌, ◌++◌, map, length}
use Rattle.slot_kinds.specs.Settles.{entry_of}
use Rattle.slot_kinds.proofs.table.Table.into_map.Given as goal

abbrev pub invariant-loop-label : goal.invariant-loop-label
invariant-loop-label l = l.at ++ map entry_of l.rows.entries ≡ map entry_of l.initial.rows.entries

abbrev pub decreases-loop-label : goal.decreases-loop-label
decreases-loop-label l = length l.rows.entries
