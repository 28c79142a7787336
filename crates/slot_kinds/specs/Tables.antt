-- The table of a function's labels, as an assignment, and what calls do with it.
use Rattle.std.specs.Prelude.{◌≡◌, ◌≤◌, ℕ, ◌+◌, ◌*◌, ◌^◌, Bool, false, List, length, drop, Option, None, Some, is_some, option_map}
use Rattle.std.specs.List.{sum_by}
use Rattle.std.specs.Ordering.{nat_cmp}
use Rattle.std.specs.BTreeMap.{get, values}
use Rattle.std.specs.BTreeSet.{contains}
use Rattle.beam_code.specs.declared.slot_state.SlotState.{SlotState}
use Rattle.beam_code.specs.Good.{Assignment}
use Rattle.beam_code.specs.Labels.{is_in, defined_in}
use Rattle.beam_code.specs.Opcode.{Opcode}
use Rattle.beam_code.specs.Slots.{State, state_of}
use Rattle.slot_kinds.specs.declared.table.Row.{Row}
use Rattle.slot_kinds.specs.declared.table.Table.{Table}
use Rattle.slot_kinds.specs.Joins.{rank_of}
use Rattle.slot_kinds.specs.Tags.{TagsKnownIf}
use Rattle.slot_kinds.specs.Segments.{Under, behind}

abbrev pub state_in : Option Row → Option State
state_in None = None
state_in (Some row) = option_map state_of row.state

-- the states in which labels are reached so far
abbrev pub held : Table → Assignment
held t label = state_in (get nat_cmp t.rows label)

-- the place behind each label that there is
abbrev pub places : Table → ℕ → Option ℕ
places t label = option_map (λ (row : Row). row.place) (get nat_cmp t.rows label)

abbrev pub is_pending : Table → ℕ → Bool
is_pending t label = contains nat_cmp t.pending label

-- a label has a row
abbrev pub known : Table → ℕ → Bool
known t label = is_some (places t label)

-- the tags of each state that is held have known labels
abbrev pub TagsHeld : Table → Type 0
TagsHeld t = (label : ℕ) → TagsKnownIf (known t) (held t label)

-- a label that is not reached counts more than any state
abbrev pub state_rank : Option SlotState → ℕ
state_rank None = 2 ^ 130
state_rank (Some s) = rank_of s

abbrev pub row_rank : Row → ℕ
row_rank row = state_rank row.state

-- what is left to be done: it falls where a state rises, and where a label is no longer pending
abbrev pub work : Table → ℕ
work t = 2 * sum_by row_rank (values t.rows) + length t.pending.keys

-- what is owed of an assignment
abbrev pub Owed : Type 1
Owed = Assignment → Type 0

abbrev pub Nothing : Owed
Nothing at = Unit {0}

-- From one table to another the states rise as far as what was owed demands, and no further; what is then still owed
-- gives all that was; and a label whose state rose is pending.
pub record Goes (before after : Owed) (old new : Table) : Type 0 where
  pub stays : places new ≡ places old
  pub rises : Under (held old) (held new)
  pub done : (at : Assignment) → Under (held new) at → after at → before at
  pub least : (at : Assignment) → Under (held old) at → before at → Under (held new) at
  pub left : (at : Assignment) → Under (held old) at → before at → after at
  pub settled : (label : ℕ) → is_pending new label ≡ false → is_pending old label ≡ false
  pub kept : (label : ℕ) → is_pending new label ≡ false → held new label ≡ held old label
  pub works : work new ≤ work old
  pub tags : TagsHeld old → TagsHeld new

-- no assignment above the table does what is owed
abbrev pub Refuses : Owed → Table → Type 0
Refuses owed t = (at : Assignment) → Under (held t) at → owed at → ⊥

-- the labels of the code, each with the place behind it
pub record ArePlaces (code : List Opcode) (places : ℕ → Option ℕ) : Type 0 where
  pub defined : (label : ℕ) → is_some (places label) ≡ is_in (defined_in code) label
  pub within : (label place : ℕ) → places label ≡ Some place → place ≤ length code
  pub behind : (label place : ℕ) → places label ≡ Some place → drop place code ≡ behind label code
