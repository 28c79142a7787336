-- What the step over an instruction is given of the class.
use Rattle.std.specs.Prelude.{◌≡◌, ℕ, List, Option, codes, option_map, option_and_then}
use Rattle.std.specs.Borrow.{Bor}
use Rattle.jvm_code.specs.declared.class.Class.{Class}
use Rattle.jvm_code.specs.declared.class.Op.{Op}
use Rattle.jvm_code.specs.declared.class.Op.TheVariants as o
use Rattle.jvm_code.specs.Instruction.{callee_at}
use Rattle.jvm_code.specs.Typing.{signature_of}
use Rattle.class_verifier.specs.declared.links.Signature.{Signature}
use Rattle.class_verifier.specs.Links.{signature_seen}

-- the name of the class of strings
abbrev pub IsString : List ℕ → Type 0
IsString name = name ≡ codes "java/lang/String"

-- the signature is that of what an instruction that calls names, if there is such
abbrev pub IsCalled : Class → Op → Option (Bor Signature) → Type 0
IsCalled class (o.Invoke index) signature = option_map (λ (s : Bor Signature). signature_seen s.now) signature ≡ option_and_then signature_of (callee_at class index)
IsCalled class _ signature = Unit {0}
