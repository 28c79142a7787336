-- What the bytes of a class are asked to be.
use Rattle.std.specs.Prelude.{◌≡◌, ℕ, List, Result, Ok, Err}
use Rattle.std.specs.declared.vec.Vec.{Vec}
use Rattle.jvm_code.specs.declared.class.Class.{Class}
use Rattle.jvm_code.specs.ReadClass.{ClassOf}
use Rattle.class_file.specs.declared.writing.WriteFault.{WriteFault}
use Rattle.class_file.specs.declared.writing.WriteFault.TheVariants.{NoProfile, NoMemory}

-- bytes that have the class; none where no bytes have it
abbrev pub Writes : {A : Type 0} → Class → Result (Vec ℕ A) WriteFault → Type 0
Writes class (Ok bytes) = ClassOf bytes.items class
Writes class (Err NoProfile) = (bytes : List ℕ) → ClassOf bytes class → ⊥
Writes class (Err NoMemory) = Unit {0}

-- the bytes of a class are written again
abbrev pub WritesAgain : {A : Type 0} → List ℕ → Class → Result (Vec ℕ A) WriteFault → Type 0
WritesAgain bytes class (Ok written) = ClassOf bytes class → written.items ≡ bytes
WritesAgain bytes class (Err fault) = ClassOf bytes class → fault ≡ NoMemory
