-- Steps over instructions whose effect stands in the class.
use Rattle.std.proofs.Common.{◌≡◌, ℕ, Bool, refl, ◌∙◌, Option, None, Some, Result, Ok, Err}
use Rattle.std.specs.Prelude.{ℤ, IfOk, option_map, option_and_then}
use Rattle.jvm_code.specs.declared.class.Class.{Class}
use Rattle.jvm_code.specs.declared.class.Op.{Op}
use Rattle.jvm_code.specs.Instruction.{Callee, Invoke, resolve}
use Rattle.jvm_code.specs.Typing.{State, after, called, left, signature_of}
use Rattle.class_verifier.specs.declared.state.State.{State as StateRef}
use Rattle.class_verifier.specs.Seen.{Becomes}

-- what is wanted is what was come to
pub becomes-each : {E : Type 0} (result : Result Bool E) (given : Option State) (wanted : ℕ → Option State) (new : StateRef)
    → ((pc : ℕ) → wanted pc ≡ given) → IfOk result (λ ok. Becomes given ok new) → IfOk result (λ ok. (pc : ℕ) → Becomes (wanted pc) ok new)
becomes-each (Ok ok) given wanted new same h = λ pc. same pc ∙ h
becomes-each (Err e) given wanted new same h = tt

-- the state behind an instruction of the class
abbrev pub behind : Class → State → ℕ → Op → Option State
behind class s pc op = option_and_then (after s) (resolve class pc op)

-- a call by what it names is one by its signature
pub called-as : (s : State) (callee : Option Callee)
    → option_and_then (after {T = ℤ} s) (option_map Invoke callee) ≡ left s (option_and_then (λ signature. called signature s.stack) (option_and_then signature_of callee))
called-as s None = refl
called-as s (Some callee) = refl
