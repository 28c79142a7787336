-- What the functions owe one another.
use Rattle.std.specs.Prelude.{ℕ, nat_lt, Bool, List, Result, Ok, Err, Option, MatchOption}
use Rattle.std.specs.List.{filter_map, find}
use Rattle.beam_code.specs.declared.operand.Src.{Src}
use Rattle.beam_code.specs.Code.{ModuleCode}
use Rattle.erjang_compile.specs.declared.fault.Large.{Large}
use Rattle.erjang_compile.specs.declared.fault.Large.TheVariants as large
use Rattle.erjang_compile.specs.declared.fault.SourceFault.{SourceFault}
use Rattle.erjang_compile.specs.declared.fault.SourceFault.TheVariants as fault
use Rattle.erjang_compile.specs.Accepted.{Fits, Literal, literal_length, longest_literal}
use Rattle.erjang_compile.specs.Faults.{FirstUnslotted, IsTooLarge, Refuses}

-- one fact of what is found, one of a refusal, and nothing where memory was wanting
abbrev pub Answers : {A : Type 0} → (A → Type 0) → (SourceFault → Type 0) → Result A SourceFault → Type 0
Answers found refused (Ok answer) = found answer
Answers found refused (Err fault.NoMemory) = Unit {0}
Answers found refused (Err f) = refused f

-- the first fault, whether sizes are looked at or not
abbrev pub IsFirst : List ℕ → SourceFault → Type 0
IsFirst bytes f = (sizes : Bool) → Refuses sizes bytes f

-- the fault is that a function is the first that is not well slotted
abbrev pub IsUnslotted : ModuleCode → SourceFault → Type 0
IsUnslotted m (fault.NotSlotted func) = FirstUnslotted m func
IsUnslotted m f = ⊥

-- what is too large first, or none where the module fits
abbrev pub TellsLarge : ModuleCode → Option Large → Type 0
TellsLarge m large = MatchOption large (Fits m) (IsTooLarge m)

-- the first length of a literal among sources that is too large
abbrev pub first_over : List Src → Option ℕ
first_over sources = find (nat_lt longest_literal) (filter_map literal_length sources)

abbrev pub as_large : Literal → Large
as_large l = large.Literal l.func l.index l.bytes
