-- The work of `verify`: from bytes that were read to a file that is verified, and over all files.
use Rattle.std.proofs.Common.{◌≡◌, ℕ, ◌≤◌, ◌≢◌, inl, inr, List, [], ◌∷◌, ◌++◌, length, Option, None, Some, Result, Ok, Err, IfSome, IsErrAnd, refl, sym, ap, subst, ◌∙◌, append-nil}
use Rattle.std.proofs.lemmas.Grind.{flat_map-append}
use Rattle.std.specs.List.{AllByRecursion}
use Rattle.class_file.specs.declared.fault.ClassFault.{ClassFault}
use Rattle.class_file.specs.declared.fault.ClassFault.TheVariants as class_fault
use Rattle.class_verifier.specs.declared.fault.VerifyFault.{VerifyFault}
use Rattle.class_verifier.specs.declared.fault.VerifyFault.TheVariants as verify_fault
use Rattle.class_verifier.specs.Verdict.{HasFault as HasVerifyFault}
use Rattle.class_file.specs.Gave.{Failed}
use Rattle.ej_outside.specs.Shelf.{Files, ShelfState}
use Rattle.ej_outside.specs.Sink.{SinkState}
use Rattle.jvm_code.specs.declared.class.Class.{Class}
use Rattle.jvm_code.specs.ReadClass.{ClassOf, read_class}
use Rattle.erjang_top.specs.declared.fault.Fault.{Fault}
use Rattle.erjang_top.specs.declared.fault.Fault.TheVariants as fault
use Rattle.erjang_top.specs.declared.fault.Stopped.{Stopped}
use Rattle.erjang_top.specs.declared.fault.Stopped.TheVariants as stopped
use Rattle.erjang_top.specs.Answers.{Refusal, Absent, Longer, OfClass, OfCode, Blame, Counted, TookAll, TookFront, longest_file}
use Rattle.erjang_top.specs.Verify.{IsVerifiedClass, IsGoodClass, IsNoClass, IsUnverified, IsBadClass, StopsAtClass, FirstClass, RefusedClass, Unwritten, ok_line, ok_lines}
use Rattle.erjang_top.specs.VerifyWork.{fault_of_class, fault_of_code, HasClassFault, VerifiesBytes, ClassIsBad, ClassFails, VerifiesFile, NextStops, VerifiesNext, VerifyStops, VerifyFails}
use Rattle.erjang_top.specs.Work.{GetsFault}
use Rattle.erjang_top.proofs.OneClass.{one_first_class}
use Rattle.erjang_top.proofs.Said.{took_both, took_second_front}
use Rattle.erjang_top.proofs.Worked.{Source, Read, held_source, told_map, same_shelf, kept}

-- Bytes.

no_class : (bytes : List ℕ) (cause : ClassFault) → Failed (read_class bytes) cause → HasClassFault bytes (fault_of_class cause)
no_class bytes (class_fault.NotClass offset) p = p
no_class bytes (class_fault.OutsideProfile offset) p = p
no_class bytes class_fault.NoMemory p = tt

-- what is wrong with bytes is passed on
pub class_refused : (bytes : List ℕ) (cause : ClassFault) (r : Result (Unit {0}) Fault) → Failed (read_class bytes) cause → IsErrAnd r (λ e. e ≡ fault_of_class cause) → VerifiesBytes bytes r
class_refused bytes cause (Ok done) p e = absurd e
class_refused bytes cause (Err other) p e = subst (HasClassFault bytes) (sym e) (no_class bytes cause p)

-- what is wrong with their class
pub code_refused : (bytes : List ℕ) (class : Class) (cause : VerifyFault) → ClassOf bytes class → HasVerifyFault class cause → HasClassFault bytes (fault_of_code cause)
code_refused bytes class (verify_fault.BadMap method) is p = record { class = class; of = is; first = p }
code_refused bytes class (verify_fault.NotTyped method offset) is p = record { class = class; of = is; first = p }
code_refused bytes class (verify_fault.NotLinked method offset) is p = record { class = class; of = is; first = p }
code_refused bytes class verify_fault.NoMemory is p = tt

class_is_some : (bytes : List ℕ) (cause : ClassFault) → IsNoClass bytes cause → cause ≢ class_fault.NoMemory
class_is_some bytes (class_fault.NotClass offset) p = λ e. absurd (cc)
class_is_some bytes (class_fault.OutsideProfile offset) p = λ e. absurd (cc)
class_is_some bytes class_fault.NoMemory p = absurd p

code_is_some : (bytes : List ℕ) (cause : VerifyFault) → IsUnverified bytes cause → cause ≢ verify_fault.NoMemory
code_is_some bytes (verify_fault.BadMap method) p = λ e. absurd (cc)
code_is_some bytes (verify_fault.NotTyped method offset) p = λ e. absurd (cc)
code_is_some bytes (verify_fault.NotLinked method offset) p = λ e. absurd (cc)
code_is_some bytes verify_fault.NoMemory p = absurd p.first

-- Files.

-- the file was not read
pub class_not_got : (file : List ℕ) (old new : ShelfState) (f : Fault) → GetsFault file old f new → ClassFails file old f new
class_not_got file old new fault.Absent g = record {
  kind = tt;
  told = g.told;
  counted = record { contents = g.contents; read_faults = g.read_faults; put_faults = g.put_faults; misses = g.misses; longs = g.longs };
}
class_not_got file old new fault.Longer g = record {
  kind = tt;
  told = g.told;
  counted = record { contents = g.contents; read_faults = g.read_faults; put_faults = g.put_faults; misses = g.misses; longs = g.longs };
}
class_not_got file old new fault.ReadFailed g = record { contents = g.contents; read_faults = g.read_faults; put_faults = g.put_faults; misses = g.misses; longs = g.longs }
class_not_got file old new fault.NoMemory g = record { contents = g.contents; read_faults = g.read_faults; put_faults = g.put_faults; misses = g.misses; longs = g.longs }
class_not_got file old new (fault.Refused cause) g = absurd g
class_not_got file old new (fault.NotBuilt func index) g = absurd g
class_not_got file old new (fault.SameModule earlier) g = absurd g
class_not_got file old new (fault.Class cause) g = absurd g
class_not_got file old new (fault.Code cause) g = absurd g

-- it was read, and its bytes are no verified class
class_bad : (file bytes : List ℕ) (old new : ShelfState) (f : Fault) → Read file bytes old new → HasClassFault bytes f → ClassFails file old f new
class_bad file bytes old new (fault.Class cause) r b = record {
  kind = class_is_some bytes cause b;
  told = told_map old.held (Source file bytes) _ r.told (λ held s. held_source file bytes held _ s.0 (s.1, b));
  counted = kept file bytes old new r;
}
class_bad file bytes old new (fault.Code cause) r b = record {
  kind = code_is_some bytes cause b;
  told = told_map old.held (Source file bytes) _ r.told (λ held s. held_source file bytes held _ s.0 (s.1, b));
  counted = kept file bytes old new r;
}
class_bad file bytes old new fault.NoMemory r b = kept file bytes old new r
class_bad file bytes old new fault.Absent r b = absurd b
class_bad file bytes old new fault.Longer r b = absurd b
class_bad file bytes old new fault.ReadFailed r b = absurd b
class_bad file bytes old new (fault.Refused cause) r b = absurd b
class_bad file bytes old new (fault.NotBuilt func index) r b = absurd b
class_bad file bytes old new (fault.SameModule earlier) r b = absurd b

pub class_read : (file bytes : List ℕ) (old new : ShelfState) (r : Result (Unit {0}) Fault) → Read file bytes old new → VerifiesBytes bytes r → VerifiesFile file old r new
class_read file bytes old new (Ok done) r b = (
  same_shelf old new r.contents r.read_faults r.put_faults r.misses r.longs,
  told_map old.held (Source file bytes) (λ held. IsGoodClass held file) r.told
      (λ held s. held_source file bytes held (λ bytes. (length bytes ≤ longest_file) × IsVerifiedClass bytes) s.0 (s.1, b)),
)
class_read file bytes old new (Err f) r b = class_bad file bytes old new f r b

-- an error that is passed on
pub class_passed_on : (file : List ℕ) (old new : ShelfState) (r : Result (Unit {0}) Fault) (f : Fault) → IsErrAnd r (λ e. e ≡ f) → ClassFails file old f new → VerifiesFile file old r new
class_passed_on file old new (Ok done) f e p = absurd e
class_passed_on file old new (Err other) f e p = subst (λ (f : Fault). ClassFails file old f new) (sym e) p

-- Files one by one.

-- what is left where these are verified and their lines are written
abbrev pub Verified : List (List ℕ) → (old new : ShelfState) → (out out' : SinkState) → Type 0
Verified files old new out out' = (new ≡ old) × IfSome old.held (λ held. AllByRecursion (IsGoodClass held) files) × TookAll out (ok_lines files) out'

lines_more : (before : List (List ℕ)) (file : List ℕ) → ok_lines before ++ ok_line file ≡ ok_lines (before ++ file ∷ [])
lines_more before file =
    ap (λ (l : List ℕ). ok_lines before ++ l) (sym (append-nil (ok_line file))) ∙ sym (flat_map-append ok_line before (file ∷ []))

good_more : (held : Files) (before : List (List ℕ)) (file : List ℕ) → AllByRecursion (IsGoodClass held) before → IsGoodClass held file → AllByRecursion (IsGoodClass held) (before ++ file ∷ [])
good_more held [] file p q = (q, tt)
good_more held (b ∷ before) file p q = (p.0, good_more held before file p.1 q)

both_told : (o : Option Files) (P Q R : Files → Type 0) → IfSome o P → IfSome o Q → ((held : Files) → P held → Q held → R held) → IfSome o R
both_told None P Q R p q f = tt
both_told (Some held) P Q R p q f = f held p q

more_told : (o : Option Files) (before : List (List ℕ)) (file : List ℕ) → IfSome o (λ held. AllByRecursion (IsGoodClass held) before)
    → IfSome o (λ held. IsGoodClass held file) → IfSome o (λ held. AllByRecursion (IsGoodClass held) (before ++ file ∷ []))
more_told o before file p q = both_told o _ _ (λ held. AllByRecursion (IsGoodClass held) (before ++ file ∷ [])) p q (λ held b g. good_more held before file b g)

-- a fact on the shelf as it was, of a shelf that is as it was
at_old : (P : Files → Type 0) (old mid : ShelfState) → mid ≡ old → IfSome mid.held P → IfSome old.held P
at_old P old mid e p = subst (λ (s : ShelfState). IfSome s.held P) e p

-- one more file
pub verified_more : (before after : List (List ℕ)) (file : List ℕ) (old mid new : ShelfState) (out between out' : SinkState) → after ≡ before ++ file ∷ []
    → Verified before old mid out between → VerifiesNext file mid new between out' (Ok tt) → Verified after old new out out'
verified_more before after file old mid new out between out' is p q =
    subst (λ (files : List (List ℕ)). Verified files old new out out') (sym is) (
      q.0 ∙ p.0,
      more_told old.held before file p.1 (at_old (λ held. IsGoodClass held file) old mid p.0 q.1),
      subst (λ (text : List ℕ). TookAll out text out') (lines_more before file) (took_both out between out' (ok_lines before) (ok_line file) p.2 q.2),
    )

-- the first that is refused, behind good ones
stops : (held : Files) (before after : List (List ℕ)) (blame : Blame) → AllByRecursion (IsGoodClass held) before → IsBadClass held blame.file blame.cause
    → StopsAtClass held (before ++ blame.file ∷ after) blame
stops held [] after blame good bad = inl (refl, bad)
stops held (file ∷ before) after blame good bad = inr (good.0, stops held before after blame good.1 bad)

refused : (files before after : List (List ℕ)) (file : List ℕ) (cause : Refusal) (old mid new : ShelfState) (out out' : SinkState) → files ≡ before ++ file ∷ after
    → Verified before old mid out out' → ClassIsBad file cause mid new → RefusedClass files (record { file = file; cause = cause }) old new out out'
refused files before after file cause old mid new out out' is p q =
    let blame : Blame = record { file = file; cause = cause } in
    let told = both_told old.held _ _ (λ held. StopsAtClass held files blame) p.1 (at_old (λ held. IsBadClass held file cause) old mid p.0 q.told)
    (λ held good bad. subst (λ (fs : List (List ℕ)). StopsAtClass held fs blame) (sym is) (stops held before after blame good bad)) in
    record {
      kind = q.kind;
      reached = record { before = before; after = after; is = is; good = p.1 };
      told = told;
      only = told_map old.held _ (λ held. (other : Option Blame) → FirstClass held files other → other ≡ Some blame) told
          (λ held first other is. one_first_class held files other (Some blame) is (inl first));
      counted = subst (λ (s : ShelfState). Counted cause s new) p.0 q.counted;
      wrote = p.2;
    }

fails : (files before after : List (List ℕ)) (file : List ℕ) (f : Fault) (old mid new : ShelfState) (out out' : SinkState) → files ≡ before ++ file ∷ after
    → Verified before old mid out out' → ClassFails file mid f new → VerifyStops files file old new out out' f
fails files before after file fault.Absent old mid new out out' is p q = refused files before after file Absent old mid new out out' is p q
fails files before after file fault.Longer old mid new out out' is p q = refused files before after file Longer old mid new out out' is p q
fails files before after file (fault.Class cause) old mid new out out' is p q = refused files before after file (OfClass cause) old mid new out out' is p q
fails files before after file (fault.Code cause) old mid new out out' is p q = refused files before after file (OfCode cause) old mid new out out' is p q
fails files before after file fault.ReadFailed old mid new out out' is p q = record {
  reached = record { before = before; after = after; is = is; good = p.1 };
  counted = subst (λ (s : ShelfState). ClassFails file s fault.ReadFailed new) p.0 q;
  wrote = p.2;
}
fails files before after file fault.NoMemory old mid new out out' is p q = record {
  before = before;
  after = file ∷ after;
  is = is;
  good = p.1;
  same = subst (λ (s : ShelfState). ClassFails file s fault.NoMemory new) p.0 q;
  wrote = p.2;
}
fails files before after file (fault.Refused cause) old mid new out out' is p q = absurd q
fails files before after file (fault.NotBuilt func index) old mid new out out' is p q = absurd q
fails files before after file (fault.SameModule earlier) old mid new out out' is p q = absurd q

unwritten : (files before after : List (List ℕ)) (file : List ℕ) (old mid new : ShelfState) (out between out' : SinkState) → files ≡ before ++ file ∷ after
    → Verified before old mid out between → NextStops file mid new between out' stopped.WriteFailed → Unwritten files old new out out'
unwritten files before after file old mid new out between out' is p q =
    let same : new ≡ old = q.0 ∙ p.0 in
    record {
      file = file;
      reached = record { before = before; after = after; is = is; good = p.1 };
      good = at_old (λ held. IsGoodClass held file) old mid p.0 q.1;
      same = record {
        contents = ap (λ (s : ShelfState). s.held) same;
        read_faults = ap (λ (s : ShelfState). s.read_faults) same;
        put_faults = ap (λ (s : ShelfState). s.put_faults) same;
        misses = ap (λ (s : ShelfState). s.misses) same;
        longs = ap (λ (s : ShelfState). s.longs) same;
      };
      wrote = subst (λ (text : List ℕ). TookFront out text out') (lines_more before file) (took_second_front out between out' (ok_lines before) (ok_line file) p.2 q.2);
    }

-- a file that is reached, and of which there is no line
pub verify_stops : (files before after : List (List ℕ)) (file : List ℕ) (old mid new : ShelfState) (out between out' : SinkState) (stop : Stopped) → files ≡ before ++ file ∷ after
    → Verified before old mid out between → NextStops file mid new between out' stop → VerifyFails files old new out out' stop
verify_stops files before after file old mid new out between out' (stopped.At named f) is p q =
    subst (λ (name : List ℕ). VerifyStops files name old new out out' f) (sym q.0)
    (subst (λ (s : SinkState). VerifyStops files file old new out s f) (sym q.1) (fails files before after file f old mid new out between is p q.2))
verify_stops files before after file old mid new out between out' stopped.WriteFailed is p q = unwritten files before after file old mid new out between out' is p q
verify_stops files before after file old mid new out between out' stopped.NoMemory is p q = absurd q
