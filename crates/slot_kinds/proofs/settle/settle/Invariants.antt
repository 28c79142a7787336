use Rattle.std.proofs.Common.{map}
use Rattle.beam_code.specs.Code.{opcode}
use Rattle.slot_kinds.specs.Settles.{SettlesTo}
use Rattle.slot_kinds.specs.Tables.{work, TagsHeld}
use Rattle.slot_kinds.proofs.settle.settle.Given as goal

abbrev pub invariant-loop-label : goal.invariant-loop-label
invariant-loop-label l = record { settles : SettlesTo (map opcode l.code) l.initial.table l.table; tags : TagsHeld l.table }

abbrev pub decreases-loop-label : goal.decreases-loop-label
decreases-loop-label l = work l.table
