-- What the check of methods answers.
use Rattle.std.specs.Prelude.{ℕ, Option, None, Some, IfSome, Result, Ok, Err}
use Rattle.std.specs.List.{AllByRecursion}
use Rattle.jvm_code.specs.declared.class.Class.{Class}
use Rattle.jvm_code.specs.declared.class.Method.{Method}
use Rattle.jvm_code.specs.Verification as spec
use Rattle.jvm_code.specs.Verification.{FirstOf, IsFaultOf, IsSoundMethod}
use Rattle.class_verifier.specs.declared.code_fault.CodeFault.{CodeFault}
use Rattle.class_verifier.specs.declared.code_fault.CodeFault.TheVariants as code_fault
use Rattle.class_verifier.specs.declared.fault.VerifyFault.{VerifyFault}
use Rattle.class_verifier.specs.declared.fault.VerifyFault.TheVariants as fault

-- what is wrong, which a want of memory does not tell
abbrev pub fault_of : VerifyFault → Option spec.Fault
fault_of (fault.BadMap method) = Some (spec.BadMap method)
fault_of (fault.NotTyped method offset) = Some (spec.InCode method (spec.NotTyped offset))
fault_of (fault.NotLinked method offset) = Some (spec.InCode method (spec.NotLinked offset))
fault_of fault.NoMemory = None

-- a fault in the code of the method of that number
abbrev pub in_method : ℕ → CodeFault → VerifyFault
in_method method (code_fault.NotTyped offset) = fault.NotTyped method offset
in_method method (code_fault.NotLinked offset) = fault.NotLinked method offset
in_method method code_fault.NoMemory = fault.NoMemory

-- nothing is wrong with the method of that number, or that is
abbrev pub ChecksMethod : Class → Method → ℕ → Result (Unit {0}) VerifyFault → Type 0
ChecksMethod class m at (Ok _) = IsSoundMethod class m
ChecksMethod class m at (Err fault) = IfSome (fault_of fault) (IsFaultOf class m at)

-- nothing is wrong with the methods, or that is wrong first
abbrev pub Checks : Class → Result (Unit {0}) VerifyFault → Type 0
Checks class (Ok _) = AllByRecursion (IsSoundMethod class) class.methods
Checks class (Err fault) = IfSome (fault_of fault) (FirstOf class class.methods 0)
