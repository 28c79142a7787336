-- The work, from one source that is read to its class that is ready.
use Rattle.std.proofs.Common.{◌≡◌, ℕ, ◌≤◌, List, length, Option, None, Some, Result, Ok, Err, IfSome, IsSomeAnd, IsErrAnd, sym, ap, subst, ◌∙◌}
use Rattle.std.specs.FinMap as files
use Rattle.ej_outside.specs.Counts.{Same}
use Rattle.ej_outside.specs.Shelf.{Files, ShelfState, GetsWith}
use Rattle.erjang_top.specs.declared.fault.Fault.{Fault}
use Rattle.erjang_top.specs.declared.fault.Fault.TheVariants as fault
use Rattle.erjang_top.specs.declared.compile.ReadyClass.{ReadyClass}
use Rattle.erjang_top.specs.Answers.{Held, Unchanged, longest_file}
use Rattle.erjang_top.specs.Work.{GetsFault, HasFault, IsClassOf, Builds, FileFails, IsBuilt, BuildsFile}

-- that the shelf holds these bytes under the file's name, and not too many
abbrev pub Source : List ℕ → List ℕ → Files → Type 0
Source file source held = (files.get held file ≡ Some source) × (length source ≤ longest_file)

-- the source was read, and the shelf is as it was
abbrev pub Read : List ℕ → List ℕ → ShelfState → ShelfState → Type 0
Read file source old new = GetsWith old new (Source file source) Same Same Same

-- a fact of the bytes that are held, from the bytes that were read
pub held_source : (file source : List ℕ) (held : Files) (P : List ℕ → Type 0) → files.get held file ≡ Some source → P source → Held held file P
held_source file source held P e p = subst (λ (o : Option (List ℕ)). IsSomeAnd o P) (sym e) p

-- where the contents are told, what holds of the contents that they might be holds of them
pub told_map : (o : Option Files) (P Q : Files → Type 0) → IfSome o P → ((held : Files) → P held → Q held) → IfSome o Q
told_map None P Q p f = tt
told_map (Some held) P Q p f = f held p

abbrev shelf_of : Option Files → ℕ → ℕ → ℕ → ℕ → ShelfState
shelf_of held reads puts misses longs = record { held = held; read_faults = reads; put_faults = puts; misses = misses; longs = longs }

-- a shelf whose contents and counts are as they were is as it was
pub same_shelf : (old new : ShelfState) → new.held ≡ old.held → new.read_faults ≡ old.read_faults → new.put_faults ≡ old.put_faults
    → new.misses ≡ old.misses → new.longs ≡ old.longs → new ≡ old
same_shelf old new held reads puts misses longs =
    ap (λ h. shelf_of h new.read_faults new.put_faults new.misses new.longs) held
    ∙ ap (λ n. shelf_of old.held n new.put_faults new.misses new.longs) reads
    ∙ ap (λ n. shelf_of old.held old.read_faults n new.misses new.longs) puts
    ∙ ap (λ n. shelf_of old.held old.read_faults old.put_faults n new.longs) misses
    ∙ ap (λ n. shelf_of old.held old.read_faults old.put_faults old.misses n) longs

-- reading changed no count
pub kept : (file source : List ℕ) (old new : ShelfState) → Read file source old new → Unchanged old new Same Same Same
kept file source old new r = record { contents = r.contents; read_faults = r.read_faults; put_faults = r.put_faults; misses = r.misses; longs = r.longs }

-- the source was not read
pub file_not_got : (file : List ℕ) (old new : ShelfState) (fault : Fault) → GetsFault file old fault new → FileFails file old fault new
file_not_got file old new fault.Absent g = record {
  told = g.told;
  counted = record { contents = g.contents; read_faults = g.read_faults; put_faults = g.put_faults; misses = g.misses; longs = g.longs };
}
file_not_got file old new fault.Longer g = record {
  told = g.told;
  counted = record { contents = g.contents; read_faults = g.read_faults; put_faults = g.put_faults; misses = g.misses; longs = g.longs };
}
file_not_got file old new fault.ReadFailed g = record { contents = g.contents; read_faults = g.read_faults; put_faults = g.put_faults; misses = g.misses; longs = g.longs }
file_not_got file old new fault.NoMemory g = record { contents = g.contents; read_faults = g.read_faults; put_faults = g.put_faults; misses = g.misses; longs = g.longs }
file_not_got file old new (fault.Refused cause) g = absurd g
file_not_got file old new (fault.NotBuilt func index) g = absurd g
file_not_got file old new (fault.SameModule earlier) g = absurd g
file_not_got file old new (fault.Class cause) g = absurd g
file_not_got file old new (fault.Code cause) g = absurd g

-- the source was read, and is built to no class
file_not_built : (file source : List ℕ) (old new : ShelfState) (fault : Fault) → Read file source old new → HasFault source fault → FileFails file old fault new
file_not_built file source old new (fault.Refused cause) r b = record {
  told = told_map old.held (Source file source) _ r.told (λ held s. held_source file source held _ s.0 (s.1, b));
  counted = kept file source old new r;
}
file_not_built file source old new (fault.NotBuilt func index) r b = record {
  told = told_map old.held (Source file source) _ r.told (λ held s. held_source file source held _ s.0 (s.1, b));
  counted = kept file source old new r;
}
file_not_built file source old new fault.Absent r b = absurd b
file_not_built file source old new fault.Longer r b = absurd b
file_not_built file source old new fault.ReadFailed r b = absurd b
file_not_built file source old new (fault.SameModule earlier) r b = absurd b
file_not_built file source old new (fault.Class cause) r b = absurd b
file_not_built file source old new (fault.Code cause) r b = absurd b
file_not_built file source old new fault.NoMemory r b = kept file source old new r

-- the source was read, and what it is built to is what the file is built to
pub file_built : (outdir file source : List ℕ) (old new : ShelfState) (r : Result ReadyClass Fault) → Read file source old new → Builds outdir source r → BuildsFile outdir file old r new
file_built outdir file source old new (Ok class) r b = (
  same_shelf old new r.contents r.read_faults r.put_faults r.misses r.longs,
  told_map old.held (Source file source) (λ held. IsBuilt held outdir file class) r.told
      (λ held s. held_source file source held (λ bytes. (length bytes ≤ longest_file) × IsClassOf outdir bytes class) s.0 (s.1, b)),
)
file_built outdir file source old new (Err fault) r b = file_not_built file source old new fault r b

-- an error that is passed on
pub file_passed_on : (outdir file : List ℕ) (old new : ShelfState) (r : Result ReadyClass Fault) (fault : Fault)
    → IsErrAnd r (λ e. e ≡ fault) → FileFails file old fault new → BuildsFile outdir file old r new
file_passed_on outdir file old new (Ok class) fault e p = absurd e
file_passed_on outdir file old new (Err other) fault e p = subst (λ (f : Fault). FileFails file old f new) (sym e) p
