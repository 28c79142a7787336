-- What the parts of `verify` owe.
use Rattle.std.specs.Prelude.{◌≡◌, ℕ, List, Result, Ok, Err, IfSome}
use Rattle.std.specs.List.{AllByRecursion}
use Rattle.class_file.specs.declared.fault.ClassFault.{ClassFault}
use Rattle.class_file.specs.declared.fault.ClassFault.TheVariants as class_fault
use Rattle.class_verifier.specs.declared.fault.VerifyFault.{VerifyFault}
use Rattle.class_verifier.specs.declared.fault.VerifyFault.TheVariants as verify_fault
use Rattle.ej_outside.specs.Counts.{Same, Rises}
use Rattle.ej_outside.specs.Shelf.{ShelfState}
use Rattle.ej_outside.specs.Sink.{SinkState}
use Rattle.erjang_top.specs.declared.fault.Fault.{Fault}
use Rattle.erjang_top.specs.declared.fault.Fault.TheVariants as fault
use Rattle.erjang_top.specs.declared.fault.Stopped.{Stopped}
use Rattle.erjang_top.specs.declared.fault.Stopped.TheVariants as stopped
use Rattle.erjang_top.specs.Answers.{Refusal, Absent, Longer, OfClass, OfCode, Counted, Unchanged, TookAll, TookFront}
use Rattle.erjang_top.specs.Verify.{IsVerifiedClass, IsGoodClass, IsNoClass, IsUnverified, IsBadClass, IsOfClass, RefusedClass, UnreadClass, Unwritten, NoMemoryAfter, ok_line, ok_lines}

-- what is wrong with a class's bytes, as one of the work's faults
abbrev pub fault_of_class : ClassFault → Fault
fault_of_class class_fault.NoMemory = fault.NoMemory
fault_of_class class = fault.Class class

-- what is wrong with a class, as one of the work's faults
abbrev pub fault_of_code : VerifyFault → Fault
fault_of_code verify_fault.NoMemory = fault.NoMemory
fault_of_code code = fault.Code code

-- why bytes are no verified class: the cause, or that memory was wanting
abbrev pub HasClassFault : List ℕ → Fault → Type 0
HasClassFault bytes (fault.Class cause) = IsNoClass bytes cause
HasClassFault bytes (fault.Code cause) = IsUnverified bytes cause
HasClassFault bytes fault.NoMemory = Unit {0}
HasClassFault bytes _ = ⊥

-- the bytes are a verified class, or why not
abbrev pub VerifiesBytes : List ℕ → Result (Unit {0}) Fault → Type 0
VerifiesBytes bytes (Ok done) = IsVerifiedClass bytes
VerifiesBytes bytes (Err fault) = HasClassFault bytes fault

-- a file is refused by itself
pub record ClassIsBad (file : List ℕ) (cause : Refusal) (old new : ShelfState) : Type 0 where
  pub kind : IsOfClass cause
  pub told : IfSome old.held (λ held. IsBadClass held file cause)
  pub counted : Counted cause old new

-- why a file is no verified class
abbrev pub ClassFails : List ℕ → ShelfState → Fault → ShelfState → Type 0
ClassFails file old fault.Absent new = ClassIsBad file Absent old new
ClassFails file old fault.Longer new = ClassIsBad file Longer old new
ClassFails file old (fault.Class cause) new = ClassIsBad file (OfClass cause) old new
ClassFails file old (fault.Code cause) new = ClassIsBad file (OfCode cause) old new
ClassFails file old fault.ReadFailed new = Unchanged old new Rises Same Same
ClassFails file old fault.NoMemory new = Unchanged old new Same Same Same
ClassFails file old _ new = ⊥

-- the file is a verified class, or why not
abbrev pub VerifiesFile : List ℕ → ShelfState → Result (Unit {0}) Fault → ShelfState → Type 0
VerifiesFile file old (Ok done) new = (new ≡ old) × IfSome old.held (λ held. IsGoodClass held file)
VerifiesFile file old (Err fault) new = ClassFails file old fault new

-- why there is no line of a file
abbrev pub NextStops : List ℕ → (old new : ShelfState) → (out out' : SinkState) → Stopped → Type 0
NextStops file old new out out' (stopped.At named fault) = (named.now ≡ file) × (out' ≡ out) × ClassFails file old fault new
NextStops file old new out out' stopped.WriteFailed = (new ≡ old) × IfSome old.held (λ held. IsGoodClass held file) × TookFront out (ok_line file) out'
NextStops file old new out out' stopped.NoMemory = ⊥

-- the file is a verified class and its line is written, or why not
abbrev pub VerifiesNext : List ℕ → (old new : ShelfState) → (out out' : SinkState) → Result (Unit {0}) Stopped → Type 0
VerifiesNext file old new out out' (Ok done) = (new ≡ old) × IfSome old.held (λ held. IsGoodClass held file) × TookAll out (ok_line file) out'
VerifiesNext file old new out out' (Err stop) = NextStops file old new out out' stop

-- what is left where a file is no verified class
abbrev pub VerifyStops : List (List ℕ) → List ℕ → (old new : ShelfState) → (out out' : SinkState) → Fault → Type 0
VerifyStops files file old new out out' fault.Absent = RefusedClass files (record { file = file; cause = Absent }) old new out out'
VerifyStops files file old new out out' fault.Longer = RefusedClass files (record { file = file; cause = Longer }) old new out out'
VerifyStops files file old new out out' (fault.Class cause) = RefusedClass files (record { file = file; cause = OfClass cause }) old new out out'
VerifyStops files file old new out out' (fault.Code cause) = RefusedClass files (record { file = file; cause = OfCode cause }) old new out out'
VerifyStops files file old new out out' fault.ReadFailed = UnreadClass files file old new out out'
VerifyStops files file old new out out' fault.NoMemory = NoMemoryAfter files old new out out'
VerifyStops files file old new out out' _ = ⊥

-- why not all files are verified
abbrev pub VerifyFails : List (List ℕ) → (old new : ShelfState) → (out out' : SinkState) → Stopped → Type 0
VerifyFails files old new out out' (stopped.At file fault) = VerifyStops files file.now old new out out' fault
VerifyFails files old new out out' stopped.WriteFailed = Unwritten files old new out out'
VerifyFails files old new out out' stopped.NoMemory = ⊥

-- what is left of a shelf, and what is written
abbrev pub VerifiesAll : List (List ℕ) → (old new : ShelfState) → (out out' : SinkState) → Result (Unit {0}) Stopped → Type 0
VerifiesAll files old new out out' (Ok done) = (new ≡ old) × IfSome old.held (λ held. AllByRecursion (IsGoodClass held) files) × TookAll out (ok_lines files) out'
VerifiesAll files old new out out' (Err stop) = VerifyFails files old new out out' stop
