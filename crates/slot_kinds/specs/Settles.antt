-- The table of labels when each label's code is kept.
use Rattle.std.specs.Prelude.{◌≡◌, ℕ, false, List, Option}
use Rattle.beam_code.specs.declared.slot_state.SlotState.{SlotState}
use Rattle.beam_code.specs.Good.{Assignment}
use Rattle.beam_code.specs.Opcode.{Opcode}
use Rattle.slot_kinds.specs.declared.table.Row.{Row}
use Rattle.slot_kinds.specs.declared.table.Table.{Table}
use Rattle.slot_kinds.specs.Segments.{Under, Segment, behind}
use Rattle.slot_kinds.specs.Tables.{held, places, is_pending}
use Rattle.slot_kinds.specs.Walks.{KeepsEach}

-- the code behind each label that is not pending is kept
abbrev pub IsQuiet : List Opcode → Table → Type 0
IsQuiet code t = (label : ℕ) → is_pending t label ≡ false → Segment (held t) (behind label code) (held t label)

-- from one table to another the states rise no further than each label's code demands
pub record SettlesTo (code : List Opcode) (old new : Table) : Type 0 where
  pub stays : places new ≡ places old
  pub rises : Under (held old) (held new)
  pub least : (at : Assignment) → Under (held old) at → KeepsEach code at → Under (held new) at
  pub quiet : IsQuiet code new

-- the label and the state of a row
abbrev pub entry_of : ℕ × Row → ℕ × Option SlotState
entry_of e = (e.0, e.1.state)
