-- What `verify` answers to each status, what it says, and what it writes.
use Rattle.std.specs.Prelude.{◌≡◌, ◌≢◌, ℕ, ◌<◌, ◌≤◌, ◌⊎◌, List, [], ◌∷◌, ◌++◌, length, codes, Option, None, Some, Err, IfSome, IsSomeAnd}
use Rattle.std.specs.List.{AllByRecursion, flat_map}
use Rattle.class_file.specs.declared.fault.ClassFault.{ClassFault}
use Rattle.class_file.specs.declared.fault.ClassFault.TheVariants as class_fault
use Rattle.class_verifier.specs.declared.fault.VerifyFault.{VerifyFault}
use Rattle.class_verifier.specs.declared.fault.VerifyFault.TheVariants as verify_fault
use Rattle.std.specs.FinMap as files
use Rattle.ej_outside.specs.Counts.{Same, Rises}
use Rattle.ej_outside.specs.Shelf.{Files, ShelfState}
use Rattle.ej_outside.specs.Sink.{SinkState}
use Rattle.jvm_code.specs.declared.class.Class.{Class}
use Rattle.jvm_code.specs.Fault as fault
use Rattle.jvm_code.specs.ReadClass.{ClassOf, read_class}
use Rattle.jvm_code.specs.Verification as verification
use Rattle.jvm_code.specs.Verification.{FirstFault, IsVerified}
use Rattle.erjang_top.specs.Answers.{Refusal, Absent, Longer, OfClass, OfCode, Blame, Held, Counted, Unchanged, Quiet, TookAll, TookFront, line, message, longest_file, status_of}

-- ---- which files are verified

-- the bytes are those of a class of the profile that keeps the type-checking rules and whose calls are linked
pub record IsVerifiedClass (bytes : List ℕ) : Type 0 where
  pub class : Class
  pub of : ClassOf bytes class
  pub verified : IsVerified class

abbrev pub IsGoodClass : Files → List ℕ → Type 0
IsGoodClass held file = Held held file (λ bytes. (length bytes ≤ longest_file) × IsVerifiedClass bytes)

-- the bytes are those of no class of the profile, and the first field that fails stands at that offset
abbrev pub IsNoClass : List ℕ → ClassFault → Type 0
IsNoClass bytes (class_fault.NotClass offset) = read_class bytes ≡ Err (fault.NotClass offset)
IsNoClass bytes (class_fault.OutsideProfile offset) = read_class bytes ≡ Err (fault.OutsideProfile offset)
IsNoClass bytes class_fault.NoMemory = ⊥

-- what is wrong first with a class
abbrev pub IsFirstFault : Class → VerifyFault → Type 0
IsFirstFault class (verify_fault.BadMap method) = FirstFault class (verification.BadMap method)
IsFirstFault class (verify_fault.NotTyped method offset) = FirstFault class (verification.InCode method (verification.NotTyped offset))
IsFirstFault class (verify_fault.NotLinked method offset) = FirstFault class (verification.InCode method (verification.NotLinked offset))
IsFirstFault class verify_fault.NoMemory = ⊥

-- the bytes are those of a class of the profile, and that is wrong first with it
pub record IsUnverified (bytes : List ℕ) (fault : VerifyFault) : Type 0 where
  pub class : Class
  pub of : ClassOf bytes class
  pub first : IsFirstFault class fault

-- the file is refused for that cause
abbrev pub IsBadClass : Files → List ℕ → Refusal → Type 0
IsBadClass held file Absent = files.get held file ≡ None
IsBadClass held file Longer = Held held file (λ bytes. longest_file < length bytes)
IsBadClass held file (OfClass fault) = Held held file (λ bytes. (length bytes ≤ longest_file) × IsNoClass bytes fault)
IsBadClass held file (OfCode fault) = Held held file (λ bytes. (length bytes ≤ longest_file) × IsUnverified bytes fault)
IsBadClass held file _ = ⊥

-- the cause is one that a class may be refused for
abbrev pub IsOfClass : Refusal → Type 0
IsOfClass Absent = Unit {0}
IsOfClass Longer = Unit {0}
IsOfClass (OfClass fault) = fault ≢ class_fault.NoMemory
IsOfClass (OfCode fault) = fault ≢ verify_fault.NoMemory
IsOfClass _ = ⊥

-- this is the first of the files that is refused, and why
abbrev pub StopsAtClass : Files → List (List ℕ) → Blame → Type 0
StopsAtClass held [] blame = ⊥
StopsAtClass held (file ∷ rest) blame = ((blame.file ≡ file) × IsBadClass held file blame.cause) ⊎ (IsGoodClass held file × StopsAtClass held rest blame)

-- the first of the files that is refused, if one is
abbrev pub FirstClass : Files → List (List ℕ) → Option Blame → Type 0
FirstClass held files first = IsSomeAnd first (StopsAtClass held files) ⊎ ((first ≡ None) × AllByRecursion (IsGoodClass held) files)

-- ---- what is written

abbrev pub ok_line : List ℕ → List ℕ
ok_line file = codes "ok " ++ (file ++ 10 ∷ [])

-- a line for each file, in order
abbrev pub ok_lines : List (List ℕ) → List ℕ
ok_lines files = flat_map ok_line files

-- the file is one of these, and where the contents are told each before it is verified
pub record ReachedClass (held : Option Files) (files : List (List ℕ)) (file : List ℕ) : Type 0 where
  pub before : List (List ℕ)
  pub after : List (List ℕ)
  pub is : files ≡ before ++ file ∷ after
  pub good : IfSome held (λ held. AllByRecursion (IsGoodClass held) before)

-- the files are refused for that one, and the lines of those before it are written
pub record RefusedClass (files : List (List ℕ)) (blame : Blame) (old new : ShelfState) (out out' : SinkState) : Type 0 where
  pub kind : IsOfClass blame.cause
  pub reached : ReachedClass old.held files blame.file
  pub told : IfSome old.held (λ held. StopsAtClass held files blame)
  -- and for nothing else
  pub only : IfSome old.held (λ held. (other : Option Blame) → FirstClass held files other → other ≡ Some blame)
  pub counted : Counted blame.cause old new
  pub wrote : TookAll out (ok_lines reached.before) out'

-- a file could not be read, none before it is refused, and the lines of these are written
pub record UnreadClass (files : List (List ℕ)) (file : List ℕ) (old new : ShelfState) (out out' : SinkState) : Type 0 where
  pub reached : ReachedClass old.held files file
  pub counted : Unchanged old new Rises Same Same
  pub wrote : TookAll out (ok_lines reached.before) out'

-- the line of a file that is verified, as are those before it, was not taken whole
pub record Unwritten (files : List (List ℕ)) (old new : ShelfState) (out out' : SinkState) : Type 0 where
  pub file : List ℕ
  pub reached : ReachedClass old.held files file
  pub good : IfSome old.held (λ held. IsGoodClass held file)
  pub same : Unchanged old new Same Same Same
  pub wrote : TookFront out (ok_lines (reached.before ++ file ∷ [])) out'

-- memory was wanting: the lines of the first files, which are verified, are written
pub record NoMemoryAfter (files : List (List ℕ)) (old new : ShelfState) (out out' : SinkState) : Type 0 where
  pub before : List (List ℕ)
  pub after : List (List ℕ)
  pub is : files ≡ before ++ after
  pub good : IfSome old.held (λ held. AllByRecursion (IsGoodClass held) before)
  pub wrote : TookAll out (ok_lines before) out'
  pub same : Unchanged old new Same Same Same

-- the answer to `verify`
pub record AnswersVerify (files : List (List ℕ)) (status : ℕ) (old new : ShelfState) (out out' err err' : SinkState) : Type 0 where
  -- done: each file is a verified class, and its line is written
  pub done : status ≡ 0 → IfSome old.held (λ held. AllByRecursion (IsGoodClass held) files) × Unchanged old new Same Same Same × TookAll out (ok_lines files) out' × (err' ≡ err)
  -- refused: for one file and cause, which were said
  pub refused : status ≡ 1 → (blame : Blame) × RefusedClass files blame old new out out' × TookAll err (message blame) err'
  pub never_usage : status ≢ 2
  -- a file could not be read, which was said
  pub read_failed : status ≡ 3 → (file : List ℕ) × UnreadClass files file old new out out' × TookAll err (line file (codes ": read failed")) err'
  -- a write failed: that of a message, of which a front was said, or that of a line
  pub write_failed : status ≡ 4
      → ((blame : Blame) × RefusedClass files blame old new out out' × TookFront err (message blame) err')
      ⊎ (((file : List ℕ) × UnreadClass files file old new out out' × TookFront err (line file (codes ": read failed")) err')
      ⊎ (Unwritten files old new out out' × (err' ≡ err)))
  pub no_memory : status ≡ 5 → NoMemoryAfter files old new out out' × (err' ≡ err)
  pub within : status ≤ 5
  -- what no rule refuses is verified, and what one refuses is refused, but for want of memory
  pub complete : (held : Files) (first : Option Blame) → old.held ≡ Some held → FirstClass held files first
      → Quiet old.read_faults new.read_faults → Quiet out.faults out'.faults → Quiet err.faults err'.faults
      → (status ≡ status_of first) ⊎ (status ≡ 5)
