-- Assignments of slot states to the labels of a function: which are good, and the most defined of them.
use Rattle.std.specs.Prelude.{◌≡◌, ℕ, true, nat_eq, if◌then◌else◌, List, [], ◌∷◌, Option, None, Some, option_map, option_and_then}
use Rattle.beam_code.specs.declared.slot_state.SlotMap.{SlotMap}
use Rattle.beam_code.specs.declared.slot_state.SlotState.{SlotState}
use Rattle.beam_code.specs.Code.{FunctionCode}
use Rattle.beam_code.specs.Flow.{Way, Flow, flow}
use Rattle.beam_code.specs.Labels.{is_in, defined_in}
use Rattle.beam_code.specs.Opcode.{Opcode, Label}
use Rattle.beam_code.specs.Slots.{State, BelowIfReached, entry_state, state_of}

-- a state for each label, or none where it is not reached
abbrev pub Assignment : Type 0
Assignment = ℕ → Option State

-- the state that is listed at a label, and none at a label that is not listed
abbrev pub listed_at : List (ℕ × Option SlotState) → ℕ → Option State
listed_at [] label = None
listed_at (entry ∷ entries) label = if nat_eq entry.0 label then option_map state_of entry.1 else listed_at entries label

-- the assignment that a map stands for
abbrev pub assignment_of : SlotMap → Assignment
assignment_of map = listed_at map.at

-- the label is reached, in a state that the given one is below
abbrev pub GoesTo : Assignment → Way → Type 0
GoesTo at way = BelowIfReached (Some way.1) (at way.0)

abbrev pub GoToEach : Assignment → List Way → Type 0
GoToEach at [] = Unit {0}
GoToEach at (way ∷ ways) = GoesTo at way × GoToEach at ways

-- the row of an instruction holds, each label that control goes to is reached so, and what comes next is good
abbrev pub Onward : Assignment → (Option State → Type 0) → Option Flow → Type 0
Onward at rest None = ⊥
Onward at rest (Some f) = GoToEach at f.goes × GoToEach at f.raised × rest f.next

-- an instruction, in the state before it, if it is reached; at a label the state is the label's
abbrev pub Step : Assignment → (Option State → Type 0) → Opcode → Option State → Type 0
Step at rest (Label label) before = BelowIfReached before (at label) × rest (at label)
Step at rest o None = rest None
Step at rest o (Some s) = Onward at rest (flow o s)

-- the code behind the last instruction is not reached
abbrev pub Walk : Assignment → List Opcode → Option State → Type 0
Walk at [] before = before ≡ None
Walk at (o ∷ code) before = Step at (Walk at code) o before

pub record Good (f : FunctionCode) (at : Assignment) : Type 0 where
  pub enters : GoesTo at (f.entry, entry_state f.arity)
  pub walks : Walk at f.code None

-- the good assignment that is below every good one at each label of the function
pub record MostDefined (f : FunctionCode) (at : Assignment) : Type 0 where
  pub good : Good f at
  pub below : (other : Assignment) → Good f other → (label : ℕ) → is_in (defined_in f.code) label ≡ true → BelowIfReached (at label) (other label)

-- no assignment is good
abbrev pub NoneGood : FunctionCode → Type 0
NoneGood f = (at : Assignment) → Good f at → ⊥

-- the state before the next instruction
abbrev pub next_state : Assignment → Opcode → Option State → Option State
next_state at (Label label) before = at label
next_state at o before = option_and_then (λ s. option_and_then (λ (f : Flow). f.next) (flow o s)) before
