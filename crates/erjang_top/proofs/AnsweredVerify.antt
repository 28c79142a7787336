-- The answer to `verify`, from what the work left and what the report said.
use Rattle.std.proofs.Common.{◌≡◌, ℕ, ◌⊎◌, inl, inr, List, ◌∷◌, codes, Option, None, Some, Result, Ok, Err, IfSome, refl, sym, ap, subst, ◌∙◌, arith}
use Rattle.std.specs.List.{AllByRecursion}
use Rattle.ej_outside.specs.Counts.{Same}
use Rattle.ej_outside.specs.Shelf.{Files, ShelfState}
use Rattle.ej_outside.specs.Sink.{SinkState}
use Rattle.erjang_top.specs.declared.fault.Fault.{Fault}
use Rattle.erjang_top.specs.declared.fault.Fault.TheVariants as fault
use Rattle.erjang_top.specs.declared.fault.Stopped.{Stopped}
use Rattle.erjang_top.specs.declared.fault.Stopped.TheVariants as stopped
use Rattle.erjang_top.specs.Answers.{Refusal, Absent, Longer, OfClass, OfCode, Blame, Unchanged, TookAll, TookFront, Quiet, status_of, line, message}
use Rattle.erjang_top.specs.Verify.{IsGoodClass, FirstClass, RefusedClass, UnreadClass, Unwritten, NoMemoryAfter, AnswersVerify}
use Rattle.erjang_top.specs.VerifyWork.{VerifyStops, VerifiesAll}
use Rattle.erjang_top.specs.Work.{RefusesFor, ReportsAt, Reports}
use Rattle.erjang_top.proofs.Answered.{not_quiet}
use Rattle.erjang_top.proofs.OneClass.{one_first_class}
use Rattle.erjang_top.proofs.Verifying.{Verified}

-- the status of a refusal, where the contents are told
refused_status : (files : List (List ℕ)) (held : Files) (told : Option Files) (blame : Blame) (first : Option Blame) (status : ℕ) → status ≡ 1
    → told ≡ Some held → IfSome told (λ h. (other : Option Blame) → FirstClass h files other → other ≡ Some blame) → FirstClass held files first → status ≡ status_of first
refused_status files held told blame first status s e only is =
    let only' = subst (λ (o : Option Files). IfSome o (λ h. (other : Option Blame) → FirstClass h files other → other ≡ Some blame)) e only in
    s ∙ sym (ap status_of (only' first is))

-- and that of files that are all verified
done_status : (files : List (List ℕ)) (held : Files) (told : Option Files) (first : Option Blame) (status : ℕ) → status ≡ 0
    → told ≡ Some held → IfSome told (λ h. AllByRecursion (IsGoodClass h) files) → FirstClass held files first → status ≡ status_of first
done_status files held told first status s e all is =
    let all' = subst (λ (o : Option Files). IfSome o (λ h. AllByRecursion (IsGoodClass h) files)) e all in
    s ∙ sym (ap status_of (one_first_class held files first None is (inr (refl, all'))))

-- the answers, status by status
answer_done : (files : List (List ℕ)) (status : ℕ) (old new : ShelfState) (out out' err err' : SinkState) → status ≡ 0
    → Verified files old new out out' → err' ≡ err → AnswersVerify files status old new out out' err err'
answer_done files status old new out out' err err' s p q = record {
  done = λ e. (p.1, same, p.2, q);
  refused = λ e. absurd (omega arith);
  never_usage = λ e. absurd (omega arith);
  read_failed = λ e. absurd (omega arith);
  write_failed = λ e. absurd (omega arith);
  no_memory = λ e. absurd (omega arith);
  within = omega arith;
  complete = λ held first told is reads outs errs. inl (done_status files held old.held first status s told p.1 is);
} where
  same : Unchanged old new Same Same Same
  same = record {
    contents = ap (λ (s : ShelfState). s.held) p.0;
    read_faults = ap (λ (s : ShelfState). s.read_faults) p.0;
    put_faults = ap (λ (s : ShelfState). s.put_faults) p.0;
    misses = ap (λ (s : ShelfState). s.misses) p.0;
    longs = ap (λ (s : ShelfState). s.longs) p.0;
  }

answer_refused : (files : List (List ℕ)) (blame : Blame) (status : ℕ) (old new : ShelfState) (out out' err err' : SinkState) → status ≡ 1
    → RefusedClass files blame old new out out' → TookAll err (message blame) err' → AnswersVerify files status old new out out' err err'
answer_refused files blame status old new out out' err err' s p q = record {
  done = λ e. absurd (omega arith);
  refused = λ e. (blame, p, q);
  never_usage = λ e. absurd (omega arith);
  read_failed = λ e. absurd (omega arith);
  write_failed = λ e. absurd (omega arith);
  no_memory = λ e. absurd (omega arith);
  within = omega arith;
  complete = λ held first told is reads outs errs. inl (refused_status files held old.held blame first status s told p.only is);
}

answer_read_failed : (files : List (List ℕ)) (file : List ℕ) (status : ℕ) (old new : ShelfState) (out out' err err' : SinkState) → status ≡ 3
    → UnreadClass files file old new out out' → TookAll err (line file (codes ": read failed")) err' → AnswersVerify files status old new out out' err err'
answer_read_failed files file status old new out out' err err' s p q = record {
  done = λ e. absurd (omega arith);
  refused = λ e. absurd (omega arith);
  never_usage = λ e. absurd (omega arith);
  read_failed = λ e. (file, p, q);
  write_failed = λ e. absurd (omega arith);
  no_memory = λ e. absurd (omega arith);
  within = omega arith;
  complete = λ held first told is reads outs errs. not_quiet old.read_faults new.read_faults p.counted.read_faults reads;
}

-- what stands after a write fault
abbrev WriteFailed : List (List ℕ) → (old new : ShelfState) → (out out' err err' : SinkState) → Type 0
WriteFailed files old new out out' err err' =
    ((blame : Blame) × RefusedClass files blame old new out out' × TookFront err (message blame) err')
    ⊎ (((file : List ℕ) × UnreadClass files file old new out out' × TookFront err (line file (codes ": read failed")) err')
    ⊎ (Unwritten files old new out out' × (err' ≡ err)))

-- one of the counts of faults rose with it
fault_rose : {G : Type 0} (files : List (List ℕ)) (old new : ShelfState) (out out' err err' : SinkState) → WriteFailed files old new out out' err err'
    → Quiet out.faults out'.faults → Quiet err.faults err'.faults → G
fault_rose files old new out out' err err' (inl (blame, refused, front)) outs errs = not_quiet err.faults err'.faults front.3 errs
fault_rose files old new out out' err err' (inr (inl (file, unread, front))) outs errs = not_quiet err.faults err'.faults front.3 errs
fault_rose files old new out out' err err' (inr (inr (failed, same))) outs errs = not_quiet out.faults out'.faults failed.wrote.3 outs

answer_write_failed : (files : List (List ℕ)) (status : ℕ) (old new : ShelfState) (out out' err err' : SinkState) → status ≡ 4
    → WriteFailed files old new out out' err err' → AnswersVerify files status old new out out' err err'
answer_write_failed files status old new out out' err err' s p = record {
  done = λ e. absurd (omega arith);
  refused = λ e. absurd (omega arith);
  never_usage = λ e. absurd (omega arith);
  read_failed = λ e. absurd (omega arith);
  write_failed = λ e. p;
  no_memory = λ e. absurd (omega arith);
  within = omega arith;
  complete = λ held first told is reads outs errs. fault_rose files old new out out' err err' p outs errs;
}

answer_no_memory : (files : List (List ℕ)) (status : ℕ) (old new : ShelfState) (out out' err err' : SinkState) → status ≡ 5
    → NoMemoryAfter files old new out out' → err' ≡ err → AnswersVerify files status old new out out' err err'
answer_no_memory files status old new out out' err err' s p q = record {
  done = λ e. absurd (omega arith);
  refused = λ e. absurd (omega arith);
  never_usage = λ e. absurd (omega arith);
  read_failed = λ e. absurd (omega arith);
  write_failed = λ e. absurd (omega arith);
  no_memory = λ e. (p, q);
  within = omega arith;
  complete = λ held first told is reads outs errs. inr s;
}

-- memory was wanting for the line of a refusal
none_for_line : (files : List (List ℕ)) (blame : Blame) (old new : ShelfState) (out out' : SinkState) → RefusedClass files blame old new out out'
    → Unchanged old new Same Same Same → NoMemoryAfter files old new out out'
none_for_line files blame old new out out' p same = record {
  before = p.reached.before;
  after = blame.file ∷ p.reached.after;
  is = p.reached.is;
  good = p.reached.good;
  same = same;
  wrote = p.wrote;
}

-- a refusal that was said, or cut, or for which memory was wanting
answer_said : (files : List (List ℕ)) (blame : Blame) (status : ℕ) (old new : ShelfState) (out out' err err' : SinkState) → RefusedClass files blame old new out out'
    → Unchanged old new Same Same Same → RefusesFor blame status err err' → AnswersVerify files status old new out out' err err'
answer_said files blame status old new out out' err err' p same (inl (inl said)) = answer_refused files blame status old new out out' err err' said.0 p said.1
answer_said files blame status old new out out' err err' p same (inl (inr cut)) = answer_write_failed files status old new out out' err err' cut.0 (inl (blame, p, cut.1))
answer_said files blame status old new out out' err err' p same (inr none) =
    answer_no_memory files status old new out out' err err' none.0 (none_for_line files blame old new out out' p same) none.1

abbrev blame_at : List ℕ → Refusal → Blame
blame_at file cause = record { file = file; cause = cause }

-- what the work left of a file and what was said of it
answer_at : (files : List (List ℕ)) (file : List ℕ) (f : Fault) (status : ℕ) (old new : ShelfState) (out out' err err' : SinkState)
    → VerifyStops files file old new out out' f → ReportsAt file f status err err' → AnswersVerify files status old new out out' err err'
answer_at files file fault.Absent status old new out out' err err' p (inl said) = answer_refused files (blame_at file Absent) status old new out out' err err' said.0 p said.1
answer_at files file fault.Absent status old new out out' err err' p (inr cut) = answer_write_failed files status old new out out' err err' cut.0 (inl (blame_at file Absent, p, cut.1))
answer_at files file fault.Longer status old new out out' err err' p (inl said) = answer_refused files (blame_at file Longer) status old new out out' err err' said.0 p said.1
answer_at files file fault.Longer status old new out out' err err' p (inr cut) = answer_write_failed files status old new out out' err err' cut.0 (inl (blame_at file Longer, p, cut.1))
answer_at files file (fault.Class cause) status old new out out' err err' p q = answer_said files (blame_at file (OfClass cause)) status old new out out' err err' p p.counted q
answer_at files file (fault.Code cause) status old new out out' err err' p q = answer_said files (blame_at file (OfCode cause)) status old new out out' err err' p p.counted q
answer_at files file fault.ReadFailed status old new out out' err err' p (inl said) = answer_read_failed files file status old new out out' err err' said.0 p said.1
answer_at files file fault.ReadFailed status old new out out' err err' p (inr cut) = answer_write_failed files status old new out out' err err' cut.0 (inr (inl (file, p, cut.1)))
answer_at files file fault.NoMemory status old new out out' err err' p q = answer_no_memory files status old new out out' err err' q.0 p q.1
answer_at files file (fault.Refused cause) status old new out out' err err' p q = absurd p
answer_at files file (fault.NotBuilt func index) status old new out out' err err' p q = absurd p
answer_at files file (fault.SameModule earlier) status old new out out' err err' p q = absurd p

-- what the work left and what the report said make the answer
pub answer_verify : (files : List (List ℕ)) (outcome : Result (Unit {0}) Stopped) (status : ℕ) (old new : ShelfState) (out out' err err' : SinkState)
    → VerifiesAll files old new out out' outcome → Reports outcome status err err' → AnswersVerify files status old new out out' err err'
answer_verify files (Ok done) status old new out out' err err' p q = answer_done files status old new out out' err err' q.0 p q.1
answer_verify files (Err (stopped.At file f)) status old new out out' err err' p q = answer_at files file.now f status old new out out' err err' p q
answer_verify files (Err stopped.WriteFailed) status old new out out' err err' p q = answer_write_failed files status old new out out' err err' q.0 (inr (inr (p, q.1)))
answer_verify files (Err stopped.NoMemory) status old new out out' err err' p q = absurd p
