-- What holds of an answer: one fact of a good one, one of a refusal, and nothing where memory was wanting.
use Rattle.std.specs.Prelude.{Result, Ok, Err}
use Rattle.slot_kinds.specs.declared.fault.SlotFault.{SlotFault}
use Rattle.slot_kinds.specs.declared.fault.SlotFault.TheVariants.{NotSlotted, NoMemory}

abbrev pub Answers : {A : Type 0} → (A → Type 0) → Type 0 → Result A SlotFault → Type 0
Answers found refused (Ok answer) = found answer
Answers found refused (Err NotSlotted) = refused
Answers found refused (Err NoMemory) = Unit {0}
