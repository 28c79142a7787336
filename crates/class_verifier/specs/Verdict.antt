-- What the verification of a class answers.
use Rattle.std.specs.Prelude.{◌≡◌, Result, Ok, Err}
use Rattle.jvm_code.specs.declared.class.Class.{Class}
use Rattle.jvm_code.specs.Verification as spec
use Rattle.jvm_code.specs.Verification.{FirstFault, IsVerified}
use Rattle.class_verifier.specs.declared.fault.Refused.{Refused}
use Rattle.class_verifier.specs.declared.fault.VerifyFault.{VerifyFault}
use Rattle.class_verifier.specs.declared.fault.VerifyFault.TheVariants as fault

-- the fault is what is wrong first with the class; a want of memory is free
abbrev pub HasFault : Class → VerifyFault → Type 0
HasFault class (fault.BadMap method) = FirstFault class (spec.BadMap method)
HasFault class (fault.NotTyped method offset) = FirstFault class (spec.InCode method (spec.NotTyped offset))
HasFault class (fault.NotLinked method offset) = FirstFault class (spec.InCode method (spec.NotLinked offset))
HasFault class fault.NoMemory = Unit {0}

-- the class is verified, or is handed back with its first fault
abbrev pub Verifies : Class → Result Class Refused → Type 0
Verifies class (Ok verified) = (verified ≡ class) × IsVerified class
Verifies class (Err refused) = (refused.class ≡ class) × HasFault class refused.fault
