-- What an answer tells of the first break of a label rule.
use Rattle.std.specs.Prelude.{◌≡◌, Option, None, Some, Result, Ok, Err, IfSome}
use Rattle.beam_code.specs.Labels.{Break, Twice, Missing, BadEntry, BadArity}
use Rattle.label_check.specs.declared.fault.LabelFault.{LabelFault}
use Rattle.label_check.specs.declared.fault.LabelFault.TheVariants as fault

-- the break that a fault tells; a want of memory is none
abbrev pub break_of : LabelFault → Option Break
break_of (fault.Twice label) = Some (Twice label)
break_of (fault.Missing func index label) = Some (Missing func index label)
break_of (fault.BadEntry func) = Some (BadEntry func)
break_of (fault.BadArity func index) = Some (BadArity func index)
break_of fault.NoMemory = None

-- the fault is that break; a want of memory tells nothing
abbrev pub TellsFault : LabelFault → Option Break → Type 0
TellsFault fault first = IfSome (break_of fault) (λ broken. first ≡ Some broken)

-- Ok is that there is none
abbrev pub Tells : Result (Unit {0}) LabelFault → Option Break → Type 0
Tells (Ok unit) first = first ≡ None
Tells (Err fault) first = TellsFault fault first
