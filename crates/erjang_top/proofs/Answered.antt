-- The answer to `compile`, from what the work left and what the report said.
use Rattle.std.proofs.Common.{◌≡◌, ℕ, ◌⊎◌, inl, inr, List, codes, Option, None, Some, Result, Ok, Err, IfSome, sym, ap, subst, ◌∙◌, arith}
use Rattle.ej_outside.specs.Counts.{Same, Rises}
use Rattle.ej_outside.specs.Shelf.{Files, ShelfState}
use Rattle.ej_outside.specs.Sink.{SinkState}
use Rattle.erjang_top.specs.declared.fault.Fault.{Fault}
use Rattle.erjang_top.specs.declared.fault.Fault.TheVariants as fault
use Rattle.erjang_top.specs.declared.fault.Stopped.{Stopped}
use Rattle.erjang_top.specs.declared.fault.Stopped.TheVariants as stopped
use Rattle.erjang_top.specs.Answers.{Refusal, Absent, Longer, OfSource, NotBuilt, SameModule, Blame, First, Refused, ReadFailed, Unchanged, Compiled, PutFailed, Told, SameCounts, TookAll, TookFront, Quiet, status_of, line, message, Answers}
use Rattle.erjang_top.specs.Words.{Compile}
use Rattle.erjang_top.proofs.OneFirst.{one_first}
use Rattle.erjang_top.specs.Work.{WorkStops, Works, RefusesFor, ReportsAt, Reports}

-- a count that rose is not quiet
pub not_quiet : {G : Type 0} (old new : ℕ) → Rises old new → Quiet old new → G
not_quiet old new (within, inl rose) (same, end) = absurd (omega arith)
not_quiet old new (within, inr at_end) (same, end) = absurd (end at_end)

-- the status of a refusal, where the contents are told
refused_status : (w : Compile) (held : Files) (told : Option Files) (blame : Blame) (first : Option Blame) (status : ℕ) → status ≡ 1
    → told ≡ Some held → IfSome told (λ h. (other : Option Blame) → First h w other → other ≡ Some blame) → First held w first → status ≡ status_of first
refused_status w held told blame first status s e only is =
    let only' = subst (λ (o : Option Files). IfSome o (λ h. (other : Option Blame) → First h w other → other ≡ Some blame)) e only in
    s ∙ sym (ap status_of (only' first is))

-- the sources of classes were accepted
done_accepted : (w : Compile) (held new : Files) → Compiled w held new → First held w None
done_accepted w held new c = inr (record { modules = c.are.modules; sources = c.are.sources; twice = sym c.are.differ })

done_status : (w : Compile) (held : Files) (old new : Option Files) (first : Option Blame) (status : ℕ) → status ≡ 0
    → old ≡ Some held → Told old new (Compiled w) → First held w first → status ≡ status_of first
done_status w held None new first status s e p q = cc
done_status w held (Some was) None first status s e p q = absurd p
done_status w held (Some was) (Some is) first status s e p q =
    let e' : was ≡ held = cc in
    let accepted = subst (λ (h : Files). First h w None) e' (done_accepted w was is p) in
    s ∙ sym (ap status_of (one_first held w first None q accepted))

-- the answers, status by status
answer_done : (w : Compile) (status : ℕ) (old new : ShelfState) (err err' : SinkState) → status ≡ 0
    → Told old.held new.held (Compiled w) × SameCounts old new → err' ≡ err → Answers w status old new err err'
answer_done w status old new err err' s p q = record {
  done = λ e. (p.0, p.1, q);
  refused = λ e. absurd (omega arith);
  never_usage = λ e. absurd (omega arith);
  read_failed = λ e. absurd (omega arith);
  write_failed = λ e. absurd (omega arith);
  no_memory = λ e. absurd (omega arith);
  within = omega arith;
  complete = λ held first told is reads puts errs. inl (done_status w held old.held new.held first status s told p.0 is);
}

answer_refused : (w : Compile) (blame : Blame) (status : ℕ) (old new : ShelfState) (err err' : SinkState) → status ≡ 1
    → Refused w blame old new → TookAll err (message blame) err' → Answers w status old new err err'
answer_refused w blame status old new err err' s p q = record {
  done = λ e. absurd (omega arith);
  refused = λ e. (blame, p, q);
  never_usage = λ e. absurd (omega arith);
  read_failed = λ e. absurd (omega arith);
  write_failed = λ e. absurd (omega arith);
  no_memory = λ e. absurd (omega arith);
  within = omega arith;
  complete = λ held first told is reads puts errs. inl (refused_status w held old.held blame first status s told p.only is);
}

answer_read_failed : (w : Compile) (file : List ℕ) (status : ℕ) (old new : ShelfState) (err err' : SinkState) → status ≡ 3
    → ReadFailed w file old new → TookAll err (line file (codes ": read failed")) err' → Answers w status old new err err'
answer_read_failed w file status old new err err' s p q = record {
  done = λ e. absurd (omega arith);
  refused = λ e. absurd (omega arith);
  never_usage = λ e. absurd (omega arith);
  read_failed = λ e. (file, p, q);
  write_failed = λ e. absurd (omega arith);
  no_memory = λ e. absurd (omega arith);
  within = omega arith;
  complete = λ held first told is reads puts errs. not_quiet old.read_faults new.read_faults p.counted.read_faults reads;
}

-- what stands after a write fault
abbrev WriteFailed : Compile → ShelfState → ShelfState → SinkState → SinkState → Type 0
WriteFailed w old new err err' =
    ((blame : Blame) × Refused w blame old new × TookFront err (message blame) err')
    ⊎ (((file : List ℕ) × ReadFailed w file old new × TookFront err (line file (codes ": read failed")) err')
    ⊎ (PutFailed w old new × (err' ≡ err)))

-- one of the counts of faults rose with it
fault_rose : {G : Type 0} (w : Compile) (old new : ShelfState) (err err' : SinkState) → WriteFailed w old new err err'
    → Quiet old.read_faults new.read_faults → Quiet old.put_faults new.put_faults → Quiet err.faults err'.faults → G
fault_rose w old new err err' (inl (blame, refused, front)) reads puts errs = not_quiet err.faults err'.faults front.3 errs
fault_rose w old new err err' (inr (inl (file, unread, front))) reads puts errs = not_quiet err.faults err'.faults front.3 errs
fault_rose w old new err err' (inr (inr (failed, same))) reads puts errs = not_quiet old.put_faults new.put_faults failed.put_faults puts

answer_write_failed : (w : Compile) (status : ℕ) (old new : ShelfState) (err err' : SinkState) → status ≡ 4
    → WriteFailed w old new err err' → Answers w status old new err err'
answer_write_failed w status old new err err' s p = record {
  done = λ e. absurd (omega arith);
  refused = λ e. absurd (omega arith);
  never_usage = λ e. absurd (omega arith);
  read_failed = λ e. absurd (omega arith);
  write_failed = λ e. p;
  no_memory = λ e. absurd (omega arith);
  within = omega arith;
  complete = λ held first told is reads puts errs. fault_rose w old new err err' p reads puts errs;
}

answer_no_memory : (w : Compile) (status : ℕ) (old new : ShelfState) (err err' : SinkState) → status ≡ 5
    → Unchanged old new Same Same Same → err' ≡ err → Answers w status old new err err'
answer_no_memory w status old new err err' s p q = record {
  done = λ e. absurd (omega arith);
  refused = λ e. absurd (omega arith);
  never_usage = λ e. absurd (omega arith);
  read_failed = λ e. absurd (omega arith);
  write_failed = λ e. absurd (omega arith);
  no_memory = λ e. (p, q);
  within = omega arith;
  complete = λ held first told is reads puts errs. inr s;
}

-- a refusal that was said, or cut, or for which memory was wanting
answer_said : (w : Compile) (blame : Blame) (status : ℕ) (old new : ShelfState) (err err' : SinkState)
    → Refused w blame old new → Unchanged old new Same Same Same → RefusesFor blame status err err' → Answers w status old new err err'
answer_said w blame status old new err err' p same (inl (inl said)) = answer_refused w blame status old new err err' said.0 p said.1
answer_said w blame status old new err err' p same (inl (inr cut)) = answer_write_failed w status old new err err' cut.0 (inl (blame, p, cut.1))
answer_said w blame status old new err err' p same (inr none) = answer_no_memory w status old new err err' none.0 same none.1

abbrev blame_at : List ℕ → Refusal → Blame
blame_at file cause = record { file = file; cause = cause }

-- what the work left of a file and what was said of it
answer_at : (w : Compile) (file : List ℕ) (f : Fault) (status : ℕ) (old new : ShelfState) (err err' : SinkState)
    → WorkStops w file old f new → ReportsAt file f status err err' → Answers w status old new err err'
answer_at w file fault.Absent status old new err err' p (inl said) = answer_refused w (blame_at file Absent) status old new err err' said.0 p said.1
answer_at w file fault.Absent status old new err err' p (inr cut) = answer_write_failed w status old new err err' cut.0 (inl (blame_at file Absent, p, cut.1))
answer_at w file fault.Longer status old new err err' p (inl said) = answer_refused w (blame_at file Longer) status old new err err' said.0 p said.1
answer_at w file fault.Longer status old new err err' p (inr cut) = answer_write_failed w status old new err err' cut.0 (inl (blame_at file Longer, p, cut.1))
answer_at w file (fault.Refused cause) status old new err err' p q = answer_said w (blame_at file (OfSource cause)) status old new err err' p p.counted q
answer_at w file (fault.NotBuilt func index) status old new err err' p q = answer_said w (blame_at file (NotBuilt func index)) status old new err err' p p.counted q
answer_at w file (fault.SameModule earlier) status old new err err' p q = answer_said w (blame_at file (SameModule earlier)) status old new err err' p p.counted q
answer_at w file (fault.Class cause) status old new err err' p q = absurd p
answer_at w file (fault.Code cause) status old new err err' p q = absurd p
answer_at w file fault.ReadFailed status old new err err' p (inl said) = answer_read_failed w file status old new err err' said.0 p said.1
answer_at w file fault.ReadFailed status old new err err' p (inr cut) = answer_write_failed w status old new err err' cut.0 (inr (inl (file, p, cut.1)))
answer_at w file fault.NoMemory status old new err err' p q = answer_no_memory w status old new err err' q.0 p q.1

-- what the work left and what the report said make the answer
pub answer : (w : Compile) (outcome : Result (Unit {0}) Stopped) (status : ℕ) (old new : ShelfState) (err err' : SinkState)
    → Works w old outcome new → Reports outcome status err err' → Answers w status old new err err'
answer w (Ok done) status old new err err' p q = answer_done w status old new err err' q.0 p q.1
answer w (Err (stopped.At file f)) status old new err err' p q = answer_at w file.now f status old new err err' p q
answer w (Err stopped.WriteFailed) status old new err err' p q = answer_write_failed w status old new err err' q.0 (inr (inr (p, q.1)))
answer w (Err stopped.NoMemory) status old new err err' p q = answer_no_memory w status old new err err' q.0 p q.1
