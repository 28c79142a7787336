-- The rows of a table: how they are made, and how the state of one rises.
use Rattle.std.specs.Prelude.{◌≡◌, ◌≤◌, ◌<◌, ℕ, ◌+◌, ◌^◌, Bool, true, false, List, [], length, drop, take, Option, None, Some, is_some}
use Rattle.std.specs.Option.{option_or}
use Rattle.std.specs.Ordering.{nat_cmp}
use Rattle.std.specs.BTreeMap as map
use Rattle.std.specs.BTreeSet as set
use Rattle.beam_code.specs.declared.slot_state.SlotState.{SlotState}
use Rattle.beam_code.specs.Labels.{is_in, defined_in, defined_by, is_that}
use Rattle.beam_code.specs.Opcode.{Opcode}
use Rattle.beam_code.specs.Slots.{state_of}
use Rattle.slot_kinds.specs.declared.table.Row.{Row}
use Rattle.slot_kinds.specs.declared.table.Table.{Table}
use Rattle.slot_kinds.specs.Joins.{rank_of, JoinsTo, NoJoin}
use Rattle.slot_kinds.specs.Segments.{behind}
use Rattle.slot_kinds.specs.Tables.{held, places, ArePlaces}

-- a label that is not reached yet
abbrev pub fresh : ℕ → Row
fresh place = record { place = place; state = None }

abbrev pub fresh_if : Bool → ℕ → Option Row
fresh_if true place = Some (fresh place)
fresh_if false place = None

-- a row for the label that the instruction defines, unless it has one
abbrev pub Defines : Opcode → ℕ → (ℕ → Option Row) → (ℕ → Option Row) → Type 0
Defines o place old new = (label : ℕ) → new label ≡ option_or (old label) (fresh_if (is_that label (defined_by o)) place)

-- a row has the place behind its label, and is not reached
pub record IsRow (code : List Opcode) (label : ℕ) (row : Row) : Type 0 where
  pub within : row.place ≤ length code
  pub behind : drop row.place code ≡ behind label code
  pub fresh : row.state ≡ None

-- the labels of the first instructions, of that number, have rows
pub record AreRows (code : List Opcode) (at : ℕ) (rows : ℕ → Option Row) : Type 0 where
  pub defined : (label : ℕ) → is_some (rows label) ≡ is_in (defined_in (take at code)) label
  pub each : (label : ℕ) (row : Row) → rows label ≡ Some row → IsRow code label row

-- the labels of the code, none of them reached or pending
pub record IsFresh (code : List Opcode) (t : Table) : Type 0 where
  pub are : ArePlaces code (places t)
  pub unreached : (label : ℕ) → held t label ≡ None
  pub still : t.pending.keys ≡ []

-- the state that a label rises to, where it is reached in another
abbrev pub RisesTo : Option SlotState → SlotState → Option SlotState → Type 0
RisesTo None s None = ⊥
RisesTo None s (Some u) = (state_of u ≡ state_of s) × (rank_of u < 2 ^ 130)
RisesTo (Some old) s next = JoinsTo old s next

abbrev pub NoRise : Option SlotState → SlotState → Type 0
NoRise None s = ⊥
NoRise (Some old) s = NoJoin (state_of old) (state_of s)

-- the label has that row, and is pending
pub record Raises (label : ℕ) (row : Row) (old new : Table) : Type 0 where
  pub rows : map.Updates nat_cmp old.rows new.rows label (Some row)
  pub entries : new.rows.entries ≡ map.insert_entry nat_cmp old.rows.entries label row
  pub ordered : map.IsOrdered nat_cmp old.rows
  pub pending : set.Updates nat_cmp old.pending new.pending label true
  pub few : length new.pending.keys ≤ length old.pending.keys + 1
