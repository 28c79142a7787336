-- What the walk over a method's code answers.
use Rattle.std.specs.Prelude.{◌≡◌, Bool, if◌then◌else◌, Option, None, Some, Result, Ok, Err}
use Rattle.jvm_code.specs.Typing.{State}
use Rattle.jvm_code.specs.Verification as spec
use Rattle.class_verifier.specs.declared.code_fault.CodeFault.{CodeFault}
use Rattle.class_verifier.specs.declared.code_fault.CodeFault.TheVariants as fault

-- the fault is the one that is there; a want of memory is free
abbrev pub TellsFault : CodeFault → Option spec.CodeFault → Type 0
TellsFault (fault.NotTyped offset) first = first ≡ Some (spec.NotTyped offset)
TellsFault (fault.NotLinked offset) first = first ≡ Some (spec.NotLinked offset)
TellsFault fault.NoMemory first = Unit {0}

-- Ok where there is no fault
abbrev pub Tells : Result (Unit {0}) CodeFault → Option spec.CodeFault → Type 0
Tells (Ok _) first = first ≡ None
Tells (Err fault) first = TellsFault fault first

-- the state with which an instruction is come to, if it is
abbrev pub come : Bool → State → Option State
come comes s = if comes then Some s else None
