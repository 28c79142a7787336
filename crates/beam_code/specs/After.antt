-- What is answered for the state after an instruction.
use Rattle.std.specs.Prelude.{◌≡◌, Option, None, Some, option_map, Result, Ok, Err}
use Rattle.beam_code.specs.declared.fault.StepFault.{StepFault}
use Rattle.beam_code.specs.declared.fault.StepFault.TheVariants.{NoRow, NoMemory}
use Rattle.beam_code.specs.declared.slot_state.SlotState.{SlotState}
use Rattle.beam_code.specs.Flow.{Flow}
use Rattle.beam_code.specs.Slots.{state_of}

-- the next state of where control goes; where the row does not hold, that
abbrev pub IsAfter : Option Flow → Result (Option SlotState) StepFault → Type 0
IsAfter None result = result ≡ Err NoRow
IsAfter (Some f) (Ok next) = option_map state_of next ≡ f.next
IsAfter (Some f) (Err NoRow) = ⊥
IsAfter (Some f) (Err NoMemory) = Unit {0}
