-- What a walk through code does with the table of labels.
use Rattle.std.specs.Prelude.{◌≡◌, ℕ, true, if◌then◌else◌, List, [], Option, Some}
use Rattle.beam_code.specs.Flow.{Flow, flow, all_ways, raised_from}
use Rattle.beam_code.specs.FlowParts.{labels_gone}
use Rattle.beam_code.specs.Good.{GoToEach, Onward}
use Rattle.beam_code.specs.Labels.{is_in, defined_in}
use Rattle.beam_code.specs.Opcode.{Opcode}
use Rattle.beam_code.specs.Slots.{State}
use Rattle.beam_code.specs.Weights.{may_raise}
use Rattle.slot_kinds.specs.declared.table.Table.{Table}
use Rattle.slot_kinds.specs.Segments.{Segment, behind}
use Rattle.slot_kinds.specs.Tags.{TagsKnownIf}
use Rattle.slot_kinds.specs.Tables.{known, Owed, Nothing, Goes}

-- the labels are reached in that state
abbrev pub ReachesEach : State → List ℕ → Owed
ReachesEach s labels at = GoToEach at (all_ways s labels)

-- the labels that an instruction goes to are, and those of the handlers of what it raises
abbrev pub ReachesAll : Opcode → State → Owed
ReachesAll o s at = GoToEach at (all_ways s (labels_gone o)) × GoToEach at (if may_raise o then raised_from s else [])

-- the row holds and each label that control goes to is reached so, whatever comes next
abbrev pub GoesOn : Opcode → State → Owed
GoesOn o s at = Onward at (λ next. Unit {0}) (flow o s)

-- an instruction is passed, from a state to the next, if it falls through
pub record Passes (o : Opcode) (s : State) (next : Option State) (old new : Table) : Type 0 where
  pub flows : Flow
  pub is : flow o s ≡ Some flows
  pub falls : flows.next ≡ next
  pub goes : Goes (λ at. GoToEach at flows.goes × GoToEach at flows.raised) Nothing old new
  pub tags : TagsKnownIf (known new) next

-- the code is kept from that state on, up to the next label
abbrev pub KeepsFrom : List Opcode → Option State → Owed
KeepsFrom code before at = Segment at code before

-- the code behind each label is kept
abbrev pub KeepsEach : List Opcode → Owed
KeepsEach code at = (label : ℕ) → is_in (defined_in code) label ≡ true → Segment at (behind label code) (at label)
