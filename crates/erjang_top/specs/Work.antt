-- What the parts of `compile` owe: the words, the work and the report.
use Rattle.std.specs.Prelude.{◌≡◌, ℕ, true, ◌<◌, ◌≤◌, ◌⊎◌, List, ◌∷◌, ◌++◌, length, map, codes, None, Some, option_map, Result, Ok, Err, IfSome, IsSomeAnd, String, string_bytes}
use Rattle.std.specs.List.{AllZip}
use Rattle.std.specs.FinMap as files
use Rattle.beam_code.specs.declared.module.Module.{Module}
use Rattle.ej_outside.specs.Counts.{Same, Rises}
use Rattle.ej_outside.specs.Shelf.{Files, ShelfState, GetsWith, PutsWith, MayReplace}
use Rattle.ej_outside.specs.Sink.{SinkState}
use Rattle.ej_outside.specs.declared.fault.Failed as failed
use Rattle.std.specs.declared.vec.Vec.{Vec}
use Rattle.erjang_compile.specs.declared.fault.SourceFault.{SourceFault}
use Rattle.erjang_compile.specs.declared.fault.SourceFault.TheVariants as source_fault
use Rattle.erjang_compile.specs.Faults.{HasFault as HasSourceFault}
use Rattle.erjang_top.specs.declared.fault.Fault.{Fault}
use Rattle.erjang_top.specs.declared.fault.Fault.TheVariants as fault
use Rattle.erjang_top.specs.declared.fault.Stopped.{Stopped}
use Rattle.erjang_top.specs.declared.fault.Stopped.TheVariants as stopped
use Rattle.erjang_top.specs.declared.compile.ReadyClass.{ReadyClass}
use Rattle.erjang_top.specs.declared.words.Command.TheVariants as commands
use Rattle.erjang_top.specs.declared.words.Command as words
use Rattle.erjang_top.specs.declared.words.CompileWords.{CompileWords}
use Rattle.erjang_top.specs.Answers.{Refusal, Absent, Longer, OfSource, NotBuilt, SameModule, OfClass, OfCode, Blame, Held, IsBad, Reached, Counted, Refused, ReadFailed, Unchanged, Put, put_each, Compiled, PutFailed, Told, SameCounts, TookAll, TookFront, Says, cause_text, line, message, class_file, longest_file}
use Rattle.erjang_top.specs.first_path.ClassProfile.{ClassOf}
use Rattle.erjang_top.specs.first_path.Emitted.{Emitted}
use Rattle.erjang_top.specs.first_path.ModuleClass.{class_of}
use Rattle.erjang_top.specs.first_path.Accepted.{Accepted}
use Rattle.erjang_top.specs.Sources.{IsSource, IsNotBuilt}
use Rattle.erjang_top.specs.Words.{Compile, Command, ToCompile, ToVerify}

-- the words that a command's own hold
abbrev pub seen_words : CompileWords → Compile
seen_words words = record { outdir = words.outdir.now; files = map string_bytes words.files.now }

abbrev pub seen_command : words.Command → Command
seen_command (commands.Compile words) = ToCompile (seen_words words)
seen_command (commands.Verify files) = ToVerify (map string_bytes files.now)

-- a fault of a source, as one of the work
abbrev pub fault_of_source : SourceFault → Fault
fault_of_source source_fault.NoMemory = fault.NoMemory
fault_of_source source = fault.Refused source

-- the first fault of a file that is not read
abbrev pub GetsFault : List ℕ → ShelfState → Fault → ShelfState → Type 0
GetsFault file old fault.Absent new = GetsWith old new (λ held. files.get held file ≡ None) Same Rises Same
GetsFault file old fault.Longer new = GetsWith old new (λ held. IsSomeAnd (files.get held file) (λ bytes. longest_file < length bytes)) Same Same Rises
GetsFault file old (fault.Refused _) new = ⊥
GetsFault file old (fault.NotBuilt _ _) new = ⊥
GetsFault file old fault.ReadFailed new = GetsWith old new (λ held. Unit {0}) Rises Same Same
GetsFault file old (fault.SameModule _) new = ⊥
GetsFault file old (fault.Class _) new = ⊥
GetsFault file old (fault.Code _) new = ⊥
GetsFault file old fault.NoMemory new = GetsWith old new (λ held. Unit {0}) Same Same Same

-- a file that is read: its bytes, of which there are not too many, or the first of its faults
abbrev pub GetsFile : {A : Type 0} → List ℕ → ShelfState → Result (Vec ℕ A) Fault → ShelfState → Type 0
GetsFile file old (Ok v) new = GetsWith old new (λ held. (files.get held file ≡ Some v.items) × (length v.items ≤ longest_file)) Same Same Same
GetsFile file old (Err fault) new = GetsFault file old fault new

-- the class of a source, with its module's name and the name of its file
pub record IsClassOf (outdir source : List ℕ) (class : ReadyClass) : Type 0 where
  pub module' : Module
  pub is_source : IsSource source module'
  pub accepted : Accepted module'
  pub emitted : Emitted module' class.bytes.items
  pub spelled : ClassOf class.bytes.items (class_of module')
  pub of_module : class.module ≡ module'.name
  pub named : string_bytes class.path ≡ class_file outdir module'.name

-- why a source of these bytes has no class: its cause, or that memory was wanting
abbrev pub HasFault : List ℕ → Fault → Type 0
HasFault source (fault.Refused cause) = HasSourceFault true source cause
HasFault source (fault.NotBuilt func index) = IsNotBuilt source func index
HasFault source fault.Absent = ⊥
HasFault source fault.Longer = ⊥
HasFault source fault.ReadFailed = ⊥
HasFault source (fault.SameModule _) = ⊥
HasFault source (fault.Class _) = ⊥
HasFault source (fault.Code _) = ⊥
HasFault source fault.NoMemory = Unit {0}

-- the module whose source the bytes are, which the first path compiles, or why there is none
abbrev pub ReadsSource : List ℕ → Result Module Fault → Type 0
ReadsSource source (Ok m) = IsSource source m × Accepted m
ReadsSource source (Err fault) = HasFault source fault

-- what a source is built to: its class, or why it has none
abbrev pub Builds : List ℕ → List ℕ → Result ReadyClass Fault → Type 0
Builds outdir source (Ok class) = IsClassOf outdir source class
Builds outdir source (Err fault) = HasFault source fault

-- a file is refused by itself
pub record FileIsBad (file : List ℕ) (cause : Refusal) (old new : ShelfState) : Type 0 where
  pub told : IfSome old.held (λ held. IsBad held file cause)
  pub counted : Counted cause old new

-- why a file has no class
abbrev pub FileFails : List ℕ → ShelfState → Fault → ShelfState → Type 0
FileFails file old fault.Absent new = FileIsBad file Absent old new
FileFails file old fault.Longer new = FileIsBad file Longer old new
FileFails file old (fault.Refused cause) new = FileIsBad file (OfSource cause) old new
FileFails file old (fault.NotBuilt func index) new = FileIsBad file (NotBuilt func index) old new
FileFails file old fault.ReadFailed new = Unchanged old new Rises Same Same
FileFails file old (fault.SameModule _) new = ⊥
FileFails file old (fault.Class _) new = ⊥
FileFails file old (fault.Code _) new = ⊥
FileFails file old fault.NoMemory new = Unchanged old new Same Same Same

-- the class is that of the bytes that are held
abbrev pub IsBuilt : Files → List ℕ → List ℕ → ReadyClass → Type 0
IsBuilt held outdir file class = Held held file (λ bytes. (length bytes ≤ longest_file) × IsClassOf outdir bytes class)

-- what a file is built to: its class, or why it has none
abbrev pub BuildsFile : List ℕ → List ℕ → ShelfState → Result ReadyClass Fault → ShelfState → Type 0
BuildsFile outdir file old (Ok class) new = (new ≡ old) × IfSome old.held (λ held. IsBuilt held outdir file class)
BuildsFile outdir file old (Err fault) new = FileFails file old fault new

-- a file was reached, and has no class
pub record StopsWith (w : Compile) (file : List ℕ) (fault : Fault) (old new : ShelfState) : Type 0 where
  pub reached : Reached old.held w file
  pub fails : FileFails file old fault new

-- why there are no classes
abbrev pub AllStop : Compile → ShelfState → Stopped → ShelfState → Type 0
AllStop w old (stopped.At file fault) new = StopsWith w file.now fault old new
AllStop w old stopped.WriteFailed new = ⊥
AllStop w old stopped.NoMemory new = Unchanged old new Same Same Same

-- what all files are built to: their classes, or why there are none
abbrev pub BuildsAll : {A : Type 0} → Compile → ShelfState → Result (Vec ReadyClass A) Stopped → ShelfState → Type 0
BuildsAll w old (Ok classes) new = (new ≡ old) × (length classes.items ≡ length w.files) × IfSome old.held (λ held. AllZip (IsBuilt held w.outdir) w.files classes.items)
BuildsAll w old (Err stop) new = AllStop w old stop new

-- the names of the classes' modules
abbrev pub modules_of : List ReadyClass → List (List ℕ)
modules_of classes = map (λ c. c.module) classes

-- a class, as it is put
abbrev pub put_of : ReadyClass → Put
put_of class = (string_bytes class.path, class.bytes.items)

abbrev pub puts_of : List ReadyClass → List Put
puts_of classes = map put_of classes

-- puts, up to the first that fails
pub record PutsSome (puts : List Put) (old new : ShelfState) : Type 0 where
  pub before : List Put
  pub failed : Put
  pub after : List Put
  pub are : puts ≡ before ++ failed ∷ after
  pub puts_with : PutsWith old new (λ was is. MayReplace (option_map (put_each before) was) failed.0 failed.1 is) Rises

abbrev pub PutsAll : List Put → ShelfState → Result (Unit {0}) failed.Failed → ShelfState → Type 0
PutsAll puts old (Ok done) new = PutsWith old new (λ was is. is ≡ option_map (put_each puts) was) Same
PutsAll puts old (Err fault) new = PutsSome puts old new

-- what the work leaves on the shelf where a file has no class
abbrev pub WorkStops : Compile → List ℕ → ShelfState → Fault → ShelfState → Type 0
WorkStops w file old fault.Absent new = Refused w (record { file = file; cause = Absent }) old new
WorkStops w file old fault.Longer new = Refused w (record { file = file; cause = Longer }) old new
WorkStops w file old (fault.Refused cause) new = Refused w (record { file = file; cause = OfSource cause }) old new
WorkStops w file old (fault.NotBuilt func index) new = Refused w (record { file = file; cause = NotBuilt func index }) old new
WorkStops w file old (fault.SameModule earlier) new = Refused w (record { file = file; cause = SameModule earlier }) old new
WorkStops w file old (fault.Class _) new = ⊥
WorkStops w file old (fault.Code _) new = ⊥
WorkStops w file old fault.ReadFailed new = ReadFailed w file old new
WorkStops w file old fault.NoMemory new = Unchanged old new Same Same Same

-- what the work leaves on the shelf
abbrev pub Works : Compile → ShelfState → Result (Unit {0}) Stopped → ShelfState → Type 0
Works w old (Ok done) new = Told old.held new.held (Compiled w) × SameCounts old new
Works w old (Err (stopped.At file fault)) new = WorkStops w file.now old fault new
Works w old (Err stopped.WriteFailed) new = PutFailed w old new
Works w old (Err stopped.NoMemory) new = Unchanged old new Same Same Same

-- a sink took the whole text, or a front of it and then failed
abbrev pub WritesAll : SinkState → List ℕ → Result (Unit {0}) failed.Failed → SinkState → Type 0
WritesAll old text (Ok done) new = TookAll old text new
WritesAll old text (Err fault) new = TookFront old text new

-- what is said, in a line that takes memory, of a file that is refused
abbrev pub SaysRefusal : {Z E : Type 0} → List ℕ → Result (String Z) E → ℕ → SinkState → SinkState → Type 0
SaysRefusal file (Ok said) status old new = Says 1 (file ++ string_bytes said) status old new
SaysRefusal file (Err none) status old new = (status ≡ 5) × (new ≡ old)

-- the line about a refused file, or a want of memory for it
abbrev pub RefusesFor : Blame → ℕ → SinkState → SinkState → Type 0
RefusesFor blame status old new = Says 1 (message blame) status old new ⊎ ((status ≡ 5) × (new ≡ old))

-- what is said of a file, and the status
abbrev pub ReportsAt : List ℕ → Fault → ℕ → SinkState → SinkState → Type 0
ReportsAt file fault.Absent status old new = Says 1 (line file (cause_text Absent)) status old new
ReportsAt file fault.Longer status old new = Says 1 (line file (cause_text Longer)) status old new
ReportsAt file fault.ReadFailed status old new = Says 3 (line file (codes ": read failed")) status old new
ReportsAt file (fault.Refused cause) status old new = RefusesFor (record { file = file; cause = OfSource cause }) status old new
ReportsAt file (fault.NotBuilt func index) status old new = RefusesFor (record { file = file; cause = NotBuilt func index }) status old new
ReportsAt file (fault.SameModule earlier) status old new = RefusesFor (record { file = file; cause = SameModule earlier }) status old new
ReportsAt file (fault.Class cause) status old new = RefusesFor (record { file = file; cause = OfClass cause }) status old new
ReportsAt file (fault.Code cause) status old new = RefusesFor (record { file = file; cause = OfCode cause }) status old new
ReportsAt file fault.NoMemory status old new = (status ≡ 5) × (new ≡ old)

-- what is said of an outcome, and its status
abbrev pub Reports : Result (Unit {0}) Stopped → ℕ → SinkState → SinkState → Type 0
Reports (Ok done) status old new = (status ≡ 0) × (new ≡ old)
Reports (Err (stopped.At file fault)) status old new = ReportsAt file.now fault status old new
Reports (Err stopped.WriteFailed) status old new = (status ≡ 4) × (new ≡ old)
Reports (Err stopped.NoMemory) status old new = (status ≡ 5) × (new ≡ old)

-- a file whose module has the name of an earlier one's
abbrev pub twice_at : List ℕ → ℕ → Blame
twice_at file earlier = record { file = file; cause = SameModule earlier }
