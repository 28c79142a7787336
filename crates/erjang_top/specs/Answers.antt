-- What `compile` answers to each status, what it says, and what stands afterwards.
use Rattle.std.specs.Prelude.{◌≡◌, ◌≢◌, true, ℕ, ◌+◌, ◌-◌, ◌^◌, ◌<◌, ◌≤◌, ◌⊎◌, List, [], ◌∷◌, ◌++◌, length, map, take, codes, Option, None, Some, if◌then◌else◌, IfSome, IsSomeAnd}
use Rattle.std.specs.Fmt.{decimal}
use Rattle.std.specs.List.{AllByRecursion, AllZip, list_any, position_or_len}
use Rattle.std.specs.Option.{option_map}
use Rattle.std.specs.Str.{bytes_eq}
use Rattle.std.specs.FinMap as files
use Rattle.beam_code.specs.declared.module.Module.{Module}
use Rattle.beam_code.specs.Places.{instruction_text}
use Rattle.class_file.specs.declared.fault.ClassFault.{ClassFault}
use Rattle.class_file.specs.Messages.{message as class_message}
use Rattle.class_verifier.specs.declared.fault.VerifyFault.{VerifyFault}
use Rattle.class_verifier.specs.Messages.{message as code_message}
use Rattle.ej_outside.specs.Counts.{Same, Rises}
use Rattle.ej_outside.specs.Shelf.{Files, ShelfState, MayReplace}
use Rattle.ej_outside.specs.Sink.{SinkState}
use Rattle.erjang_compile.specs.declared.fault.SourceFault.{SourceFault}
use Rattle.erjang_compile.specs.Faults.{HasFault}
use Rattle.erjang_compile.specs.Messages.{message as source_message}
use Rattle.erjang_top.specs.first_path.Emitted.{Emitted}
use Rattle.erjang_top.specs.first_path.Runs.{TogetherAs}
use Rattle.erjang_top.specs.Mangle.{mangle}
use Rattle.erjang_top.specs.Sources.{IsSource, IsNotBuilt}
use Rattle.erjang_top.specs.Words.{Compile}

-- the most bytes that a file may have
abbrev pub longest_file : ℕ
longest_file = 67108864

-- the name of a module's class file
abbrev pub class_file : List ℕ → List ℕ → List ℕ
class_file outdir module' = outdir ++ codes "/" ++ mangle module' ++ codes ".class"

-- Which command is refused.

-- why a file is refused
pub data Refusal : Type 0 where
  Absent : Refusal
  Longer : Refusal
  -- its bytes, which are not too many, are refused
  OfSource : SourceFault → Refusal
  -- they are those of a module that is accepted, and that instruction of that function is not compiled so far
  NotBuilt : (func index : ℕ) → Refusal
  -- its module has the name of that of an earlier file, which stands at this place from 1
  SameModule : ℕ → Refusal
  -- they are those of no class of the profile
  OfClass : ClassFault → Refusal
  -- they are those of a class that is not verified
  OfCode : VerifyFault → Refusal

-- the cause is one that a source may be refused for
abbrev pub IsOfSource : Refusal → Type 0
IsOfSource (OfClass fault) = ⊥
IsOfSource (OfCode fault) = ⊥
IsOfSource _ = Unit {0}

-- a file that is refused, and why
pub record Blame : Type 0 where
  pub file : List ℕ
  pub cause : Refusal

-- the bytes of a file that are held
abbrev pub Held : Files → List ℕ → (List ℕ → Type 0) → Type 0
Held held file P = IsSomeAnd (files.get held file) P

-- the file is the source of the module
abbrev pub IsOf : Files → List ℕ → Module → Type 0
IsOf held file m = Held held file (λ bytes. (length bytes ≤ longest_file) × IsSource bytes m)

abbrev pub IsGood : Files → List ℕ → Type 0
IsGood held file = (m : Module) × IsOf held file m

-- the file is refused by itself, for that cause
abbrev pub IsBad : Files → List ℕ → Refusal → Type 0
IsBad held file Absent = files.get held file ≡ None
IsBad held file Longer = Held held file (λ bytes. longest_file < length bytes)
IsBad held file (OfSource fault) = Held held file (λ bytes. (length bytes ≤ longest_file) × HasFault true bytes fault)
IsBad held file (NotBuilt func index) = Held held file (λ bytes. (length bytes ≤ longest_file) × IsNotBuilt bytes func index)
IsBad held file (SameModule earlier) = ⊥
IsBad held file (OfClass fault) = ⊥
IsBad held file (OfCode fault) = ⊥

-- this is the first of the files that is refused by itself
abbrev pub StopsAt : Files → List (List ℕ) → Blame → Type 0
StopsAt held [] blame = ⊥
StopsAt held (file ∷ rest) blame = ((blame.file ≡ file) × IsBad held file blame.cause) ⊎ (IsGood held file × StopsAt held rest blame)

-- the first of the files whose module has one of the earlier names
abbrev pub first_twice : (earlier : List (List ℕ)) → (files names : List (List ℕ)) → Option Blame
first_twice earlier [] names = None
first_twice earlier (file ∷ files) [] = None
first_twice earlier (file ∷ files) (name ∷ names) =
    if list_any (bytes_eq name) earlier
    then Some (record { file = file; cause = SameModule (position_or_len (bytes_eq name) earlier + 1) })
    else first_twice (earlier ++ name ∷ []) files names

-- each file is the source of a module, and what is first wrong with these is a name that stands twice, or nothing
pub record AllRead (held : Files) (w : Compile) (first : Option Blame) : Type 0 where
  pub modules : List Module
  pub sources : AllZip (IsOf held) w.files modules
  pub twice : first ≡ first_twice [] w.files (map (λ m. m.name) modules)

-- what a command is refused for first, if anything
abbrev pub First : Files → Compile → Option Blame → Type 0
First held w first = IsSomeAnd first (StopsAt held w.files) ⊎ AllRead held w first

-- What is said.

-- what is said of a refusal
abbrev pub cause_text : Refusal → List ℕ
cause_text Absent = codes ": absent"
cause_text Longer = codes ": longer than 67108864 bytes"
cause_text (OfSource fault) = codes ": " ++ source_message fault
cause_text (NotBuilt func index) = codes ": " ++ instruction_text func index (codes ": not built")
cause_text (SameModule earlier) = codes ": same module as file " ++ decimal earlier
cause_text (OfClass fault) = codes ": " ++ class_message fault
cause_text (OfCode fault) = codes ": " ++ code_message fault

-- a line about a file, with its newline
abbrev pub line : List ℕ → List ℕ → List ℕ
line file said = file ++ (said ++ 10 ∷ [])

-- the line about a refused file
abbrev pub message : Blame → List ℕ
message blame = line blame.file (cause_text blame.cause)

abbrev pub usage_line : List ℕ
usage_line = codes "usage: erjang compile OUTDIR FILE... | beam SCRIPT FILE... | run SCRIPT CLASS... | verify CLASS... | sample N\n"

-- a sink took the whole text
abbrev pub TookAll : SinkState → List ℕ → SinkState → Type 0
TookAll old text new = (new.took ≡ option_map (λ taken. taken ++ text) old.took) × Same old.faults new.faults

-- a sink took less than the whole text, from its front, and then failed
abbrev pub TookFront : SinkState → List ℕ → SinkState → Type 0
TookFront old text new = (n : ℕ) × (n < length text) × (new.took ≡ option_map (λ taken. taken ++ take n text) old.took) × Rises old.faults new.faults

-- the status with the whole text, or status 4 where the sink failed
abbrev pub Says : ℕ → List ℕ → ℕ → SinkState → SinkState → Type 0
Says status text result old new = ((result ≡ status) × TookAll old text new) ⊎ ((result ≡ 4) × TookFront old text new)

-- no count of the shelf changed but as these say, and what it holds is as it was
pub record Unchanged (old new : ShelfState) (Reads Misses Longs : ℕ → ℕ → Type 0) : Type 0 where
  pub contents : new.held ≡ old.held
  pub read_faults : Reads old.read_faults new.read_faults
  pub put_faults : Same old.put_faults new.put_faults
  pub misses : Misses old.misses new.misses
  pub longs : Longs old.longs new.longs

-- a refusal's own count rose, or stands at its end, and no other did
abbrev pub Counted : Refusal → ShelfState → ShelfState → Type 0
Counted Absent old new = Unchanged old new Same Rises Same
Counted Longer old new = Unchanged old new Same Same Rises
Counted (OfSource fault) old new = Unchanged old new Same Same Same
Counted (NotBuilt func index) old new = Unchanged old new Same Same Same
Counted (SameModule earlier) old new = Unchanged old new Same Same Same
Counted (OfClass fault) old new = Unchanged old new Same Same Same
Counted (OfCode fault) old new = Unchanged old new Same Same Same

-- the file is one of the command's, and where the contents are told each before it is the source of a module
pub record Reached (held : Option Files) (w : Compile) (file : List ℕ) : Type 0 where
  pub before : List (List ℕ)
  pub after : List (List ℕ)
  pub is : w.files ≡ before ++ file ∷ after
  pub good : IfSome held (λ held. AllByRecursion (IsGood held) before)

-- the command is refused for that file
pub record Refused (w : Compile) (blame : Blame) (old new : ShelfState) : Type 0 where
  pub kind : IsOfSource blame.cause
  pub reached : Reached old.held w blame.file
  pub told : IfSome old.held (λ held. First held w (Some blame))
  -- and for nothing else
  pub only : IfSome old.held (λ held. (other : Option Blame) → First held w other → other ≡ Some blame)
  pub counted : Counted blame.cause old new

-- What stands.

-- a file's name, and the bytes that are put under it
abbrev pub Put : Type 0
Put = List ℕ × List ℕ

-- what is held once these are put
abbrev pub put_each : List Put → Files → Files
put_each [] held = held
put_each (p ∷ ps) held = put_each ps (files.insert held p.0 p.1)

-- what is put: for each of the modules, in order, the bytes of its class under its name
pub record ArePuts (held : Files) (w : Compile) (puts : List Put) : Type 0 where
  pub modules : List Module
  pub sources : AllZip (IsOf held) w.files modules
  -- and the files are the sources of no others
  pub only : (others : List Module) → AllZip (IsOf held) w.files others → others ≡ modules
  -- no two of one name
  pub differ : first_twice [] w.files (map (λ m. m.name) modules) ≡ None
  pub named : map (λ p. p.0) puts ≡ map (λ m. class_file w.outdir m.name) modules
  pub emitted : AllZip Emitted modules (map (λ p. p.1) puts)
  -- and the classes run together as the modules do
  pub together : TogetherAs modules (map (λ p. p.1) puts)

-- what a shelf holds with the classes of accepted modules' sources beside what it held
pub record Compiled (w : Compile) (held new : Files) : Type 0 where
  pub puts : List Put
  pub are : ArePuts held w puts
  pub stands : new ≡ put_each puts held

-- no count of a shelf changed
abbrev pub SameCounts : ShelfState → ShelfState → Type 0
SameCounts old new = Same old.read_faults new.read_faults × Same old.put_faults new.put_faults × Same old.misses new.misses × Same old.longs new.longs

-- where the contents are told, they are told of both and are so related; else of neither
abbrev pub Told : Option Files → Option Files → (Files → Files → Type 0) → Type 0
Told None None P = Unit {0}
Told (Some held) (Some new) P = P held new
Told _ _ P = ⊥

-- a put failed: those before it stand whole, its class may stand in part, under its own name alone, and no other is put
pub record PutFailed (w : Compile) (old new : ShelfState) : Type 0 where
  pub before : List Put
  pub failed : Put
  pub after : List Put
  pub are : IfSome old.held (λ held. ArePuts held w (before ++ failed ∷ after))
  pub contents : MayReplace (option_map (put_each before) old.held) failed.0 failed.1 new.held
  pub read_faults : Same old.read_faults new.read_faults
  pub put_faults : Rises old.put_faults new.put_faults
  pub misses : Same old.misses new.misses
  pub longs : Same old.longs new.longs

-- a file could not be read, and none before it is refused
pub record ReadFailed (w : Compile) (file : List ℕ) (old new : ShelfState) : Type 0 where
  pub reached : Reached old.held w file
  pub counted : Unchanged old new Rises Same Same

-- a count that did not rise and does not stand at its end
abbrev pub Quiet : ℕ → ℕ → Type 0
Quiet old new = (new ≡ old) × (new ≢ 2 ^ 64 - 1)

-- the status that tells a refusal or none
abbrev pub status_of : Option Blame → ℕ
status_of None = 0
status_of (Some blame) = 1

-- the answer to `compile`
pub record Answers (w : Compile) (status : ℕ) (old new : ShelfState) (err err' : SinkState) : Type 0 where
  -- done: the classes of the sources stand beside what was held, and nothing was said
  pub done : status ≡ 0 → Told old.held new.held (Compiled w) × SameCounts old new × (err' ≡ err)
  -- refused: for one file and cause, which were said
  pub refused : status ≡ 1 → (blame : Blame) × Refused w blame old new × TookAll err (message blame) err'
  pub never_usage : status ≢ 2
  -- a file could not be read, which was said
  pub read_failed : status ≡ 3 → (file : List ℕ) × ReadFailed w file old new × TookAll err (line file (codes ": read failed")) err'
  -- a write failed: that of a message, of which a front was said, or that of a class
  pub write_failed : status ≡ 4
      → ((blame : Blame) × Refused w blame old new × TookFront err (message blame) err')
      ⊎ (((file : List ℕ) × ReadFailed w file old new × TookFront err (line file (codes ": read failed")) err')
      ⊎ (PutFailed w old new × (err' ≡ err)))
  -- memory was wanting: nothing changed and nothing was said
  pub no_memory : status ≡ 5 → Unchanged old new Same Same Same × (err' ≡ err)
  pub within : status ≤ 5
  -- what no rule refuses is compiled, and what one refuses is refused, but for want of memory
  pub complete : (held : Files) (first : Option Blame) → old.held ≡ Some held → First held w first
      → Quiet old.read_faults new.read_faults → Quiet old.put_faults new.put_faults → Quiet err.faults err'.faults
      → (status ≡ status_of first) ⊎ (status ≡ 5)
