-- Refusals that are handed on.
use Rattle.std.specs.Prelude.{Err}
use Rattle.slot_kinds.specs.declared.fault.SlotFault.{SlotFault}
use Rattle.slot_kinds.specs.declared.fault.SlotFault.TheVariants.{NotSlotted, NoMemory}
use Rattle.slot_kinds.specs.Answer.{Answers}

-- what holds of a refusal
abbrev pub Refused : Type 0 → SlotFault → Type 0
Refused r fault = Answers {A = Unit {0}} (λ x. Unit {0}) r (Err fault)

pub handed-on : (r s : Type 0) (fault : SlotFault) → (r → s) → Refused r fault → Refused s fault
handed-on r s NotSlotted f h = f h
handed-on r s NoMemory f h = tt
