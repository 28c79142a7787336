-- A command is refused for one file and cause first, or for none.
use Rattle.std.proofs.Common.{◌≡◌, ℕ, ◌<◌, ◌≤◌, ◌⊎◌, inl, inr, true, List, [], ◌∷◌, length, Option, None, Some, IsSomeAnd, refl, sym, ap, ap₂, ◌∙◌, subst, map, arith}
use Rattle.std.specs.FinMap as files
use Rattle.std.specs.List.{AllZip}
use Rattle.beam_code.specs.declared.module.Module.{Module}
use Rattle.ej_outside.specs.Shelf.{Files}
use Rattle.erjang_compile.specs.declared.fault.SourceFault.{SourceFault}
use Rattle.erjang_compile.specs.Faults.{HasFault}
use Rattle.erjang_compile.proofs.OneAnswer.{law as one_answer}
use Rattle.erjang_top.specs.Answers.{Refusal, Absent, Longer, OfSource, NotBuilt, SameModule, OfClass, OfCode, Blame, IsOf, IsGood, IsBad, StopsAt, AllRead, First, first_twice, longest_file}
use Rattle.erjang_top.specs.Sources.{IsSource, IsNotBuilt}
use Rattle.erjang_top.specs.Words.{Compile}
use Rattle.erjang_top.specs.first_path.Built.{FirstUnbuilt}
use Rattle.erjang_top.proofs.FirstPath.BuiltLaw.{none_unbuilt, one_unbuilt as one_place}

-- what is first wrong with a file, if anything
data Verdict : Type 0 where
  NotHeld : Verdict
  TooLong : Verdict
  Bad : (fault : SourceFault) → Verdict
  Unbuilt : (func index : ℕ) → Verdict
  Good : Verdict

-- the refusal of a verdict
abbrev refusal_in : Verdict → Option Refusal
refusal_in NotHeld = Some Absent
refusal_in TooLong = Some Longer
refusal_in (Bad fault) = Some (OfSource fault)
refusal_in (Unbuilt func index) = Some (NotBuilt func index)
refusal_in Good = None

-- a verdict's cause in bytes that are not too many
abbrev CauseIn : List ℕ → Verdict → Type 0
CauseIn bytes NotHeld = ⊥
CauseIn bytes TooLong = ⊥
CauseIn bytes (Bad fault) = HasFault true bytes fault
CauseIn bytes (Unbuilt func index) = IsNotBuilt bytes func index
CauseIn bytes Good = (m : Module) × IsSource bytes m

-- what is accepted and not compiled so far is one instruction of one module
one_unbuilt : (bytes : List ℕ) (func index other_func other_index : ℕ) → IsNotBuilt bytes func index → IsNotBuilt bytes other_func other_index
    → Unbuilt func index ≡ Unbuilt other_func other_index
one_unbuilt bytes func index other_func other_index p q =
    let same = one_place p.read func index other_func other_index p.first
    (subst (λ m. FirstUnbuilt m other_func other_index) ((one_answer true bytes).same_module q.read p.read q.accepted p.accepted) q.first) in
    ap₂ (λ (f : ℕ) (i : ℕ). Unbuilt f i) same.0 same.1

-- of a module that is compiled every instruction is
not_unbuilt : {G : Type 0} (bytes : List ℕ) (func index : ℕ) (m : Module) → IsNotBuilt bytes func index → IsSource bytes m → G
not_unbuilt bytes func index m p q =
    absurd (none_unbuilt m func index q.built (subst (λ n. FirstUnbuilt n func index) ((one_answer true bytes).same_module p.read m p.accepted q.accepted) p.first))

one_cause : (bytes : List ℕ) (a b : Verdict) → CauseIn bytes a → CauseIn bytes b → a ≡ b
one_cause bytes NotHeld b p q = absurd p
one_cause bytes TooLong b p q = absurd p
one_cause bytes a NotHeld p q = absurd q
one_cause bytes a TooLong p q = absurd q
one_cause bytes (Bad e) (Bad f) p q = ap (λ e. Bad e) ((one_answer true bytes).same_fault e f p q)
one_cause bytes (Bad e) (Unbuilt func index) p q = absurd ((one_answer true bytes).not_both q.read e q.accepted p)
one_cause bytes (Bad e) Good p q = absurd ((one_answer true bytes).not_both q.0 e q.1.accepted p)
one_cause bytes (Unbuilt func index) (Bad f) p q = absurd ((one_answer true bytes).not_both p.read f p.accepted q)
one_cause bytes (Unbuilt func index) (Unbuilt other_func other_index) p q = one_unbuilt bytes func index other_func other_index p q
one_cause bytes (Unbuilt func index) Good p q = not_unbuilt bytes func index q.0 p q.1
one_cause bytes Good (Bad f) p q = absurd ((one_answer true bytes).not_both p.0 f p.1.accepted q)
one_cause bytes Good (Unbuilt func index) p q = not_unbuilt bytes func index p.0 q p.1
one_cause bytes Good Good p q = refl

-- a verdict is that of a file that is absent or has these bytes
abbrev Judges : Option (List ℕ) → Verdict → Type 0
Judges None v = v ≡ NotHeld
Judges (Some bytes) v = ((longest_file < length bytes) × (v ≡ TooLong)) ⊎ ((length bytes ≤ longest_file) × CauseIn bytes v)

one_verdict : (o : Option (List ℕ)) (a b : Verdict) → Judges o a → Judges o b → a ≡ b
one_verdict None a b p q = p ∙ sym q
one_verdict (Some bytes) a b (inl p) (inl q) = p.1 ∙ sym q.1
one_verdict (Some bytes) a b (inl p) (inr q) = absurd (omega (arith, p.0, q.0))
one_verdict (Some bytes) a b (inr p) (inl q) = absurd (omega (arith, p.0, q.0))
one_verdict (Some bytes) a b (inr p) (inr q) = one_cause bytes a b p.1 q.1

-- what a file is told by is a verdict on it
record Judged (o : Option (List ℕ)) (first : Option Refusal) : Type 0 where
  verdict : Verdict
  judges : Judges o verdict
  told : first ≡ refusal_in verdict

of_bytes : (o : Option (List ℕ)) (first : Option Refusal) (v : Verdict) → first ≡ refusal_in v → IsSomeAnd o (λ bytes. (length bytes ≤ longest_file) × CauseIn bytes v) → Judged o first
of_bytes None first v e p = absurd p
of_bytes (Some bytes) first v e p = record { verdict = v; judges = inr p; told = e }

of_long : (o : Option (List ℕ)) → IsSomeAnd o (λ bytes. longest_file < length bytes) → Judged o (Some Longer)
of_long None p = absurd p
of_long (Some bytes) p = record { verdict = TooLong; judges = inl (p, refl); told = refl }

of_none : (o : Option (List ℕ)) → o ≡ None → Judged o (Some Absent)
of_none None e = record { verdict = NotHeld; judges = refl; told = refl }
of_none (Some bytes) e = absurd (cc)

of_good : (o : Option (List ℕ)) (m : Module) → IsSomeAnd o (λ bytes. (length bytes ≤ longest_file) × IsSource bytes m) → Judged o None
of_good None m p = absurd p
of_good (Some bytes) m p = record { verdict = Good; judges = inr (p.0, (m, p.1)); told = refl }

-- what a file is by itself
abbrev Alone : Files → List ℕ → Option Refusal → Type 0
Alone held file (Some cause) = IsBad held file cause
Alone held file None = IsGood held file

judged : (held : Files) (file : List ℕ) (first : Option Refusal) → Alone held file first → Judged (files.get held file) first
judged held file (Some Absent) p = of_none _ p
judged held file (Some Longer) p = of_long _ p
judged held file (Some (OfSource fault)) p = of_bytes _ _ (Bad fault) refl p
judged held file (Some (NotBuilt func index)) p = of_bytes _ _ (Unbuilt func index) refl p
judged held file (Some (SameModule earlier)) p = absurd p
judged held file (Some (OfClass fault)) p = absurd p
judged held file (Some (OfCode fault)) p = absurd p
judged held file None p = of_good _ p.0 p.1

one_alone : (held : Files) (file : List ℕ) (a b : Option Refusal) → Alone held file a → Alone held file b → a ≡ b
one_alone held file a b p q =
    let x = judged held file a p in
    let y = judged held file b q in
    x.told ∙ ap refusal_in (one_verdict (files.get held file) x.verdict y.verdict x.judges y.judges) ∙ sym y.told

pub some_same : {A : Type 0} (x y : A) → ◌≡◌ {A = Option A} (Some x) (Some y) → x ≡ y
some_same x y e = cc

pub some_none : {A G : Type 0} (x : A) → ◌≡◌ {A = Option A} (Some x) None → G
some_none x e = absurd (cc)

one_bad : (held : Files) (file : List ℕ) (a b : Refusal) → IsBad held file a → IsBad held file b → a ≡ b
one_bad held file a b p q = some_same a b (one_alone held file (Some a) (Some b) p q)

not_good_and_bad : {G : Type 0} (held : Files) (file : List ℕ) (a : Refusal) → IsBad held file a → IsGood held file → G
not_good_and_bad held file a p q = some_none a (one_alone held file (Some a) None p q)

abbrev made : List ℕ → Refusal → Blame
made file cause = record { file = file; cause = cause }

pub same_blame : (a b : Blame) → a.file ≡ b.file → a.cause ≡ b.cause → a ≡ b
same_blame a b e f = ap₂ made e f

stops_same : (held : Files) (files : List (List ℕ)) (a b : Blame) → StopsAt held files a → StopsAt held files b → a ≡ b
stops_same held [] a b p q = absurd p
stops_same held (file ∷ files) a b (inl p) (inl q) = same_blame a b (p.0 ∙ sym q.0) (one_bad held file a.cause b.cause p.1 q.1)
stops_same held (file ∷ files) a b (inl p) (inr q) = not_good_and_bad held file a.cause p.1 q.0
stops_same held (file ∷ files) a b (inr p) (inl q) = not_good_and_bad held file b.cause q.1 p.0
stops_same held (file ∷ files) a b (inr p) (inr q) = stops_same held files a b p.1 q.1

stops_both : (held : Files) (files : List (List ℕ)) (a b : Option Blame) → IsSomeAnd a (StopsAt held files) → IsSomeAnd b (StopsAt held files) → a ≡ b
stops_both held files None b p q = absurd p
stops_both held files (Some a) None p q = absurd q
stops_both held files (Some a) (Some b) p q = ap (λ (x : Blame). Some x) (stops_same held files a b p q)

-- what stops is not all read
not_all : {G : Type 0} (held : Files) (files : List (List ℕ)) (ms : List Module) (a : Blame) → StopsAt held files a → AllZip (IsOf held) files ms → G
not_all held [] ms a p q = absurd p
not_all held (file ∷ files) [] a p q = absurd q
not_all held (file ∷ files) (m ∷ ms) a (inl p) q = not_good_and_bad held file a.cause p.1 (m, q.0)
not_all held (file ∷ files) (m ∷ ms) a (inr p) q = not_all held files ms a p.1 q.1

stops_or_read : {G : Type 0} (held : Files) (w : Compile) (a b : Option Blame) → IsSomeAnd a (StopsAt held w.files) → AllRead held w b → G
stops_or_read held w None b p q = absurd p
stops_or_read held w (Some a) b p q = not_all held w.files q.modules a p q.sources

-- a file is the source of one module
one_of : (o : Option (List ℕ)) (m n : Module)
    → IsSomeAnd o (λ bytes. (length bytes ≤ longest_file) × IsSource bytes m) → IsSomeAnd o (λ bytes. (length bytes ≤ longest_file) × IsSource bytes n) → m ≡ n
one_of None m n p q = absurd p
one_of (Some bytes) m n p q = (one_answer true bytes).same_module m n p.1.accepted q.1.accepted

pub same_modules : (held : Files) (files : List (List ℕ)) (ms ns : List Module) → AllZip (IsOf held) files ms → AllZip (IsOf held) files ns → ms ≡ ns
same_modules held [] [] [] p q = refl
same_modules held [] (m ∷ ms) ns p q = absurd p
same_modules held [] [] (n ∷ ns) p q = absurd q
same_modules held (file ∷ files) [] ns p q = absurd p
same_modules held (file ∷ files) (m ∷ ms) [] p q = absurd q
same_modules held (file ∷ files) (m ∷ ms) (n ∷ ns) p q =
    ap₂ (λ (x : Module) (xs : List Module). x ∷ xs) (one_of _ m n p.0 q.0) (same_modules held files ms ns p.1 q.1)

pub one_first : (held : Files) (w : Compile) (a b : Option Blame) → First held w a → First held w b → a ≡ b
one_first held w a b (inl p) (inl q) = stops_both held w.files a b p q
one_first held w a b (inl p) (inr q) = stops_or_read held w a b p q
one_first held w a b (inr p) (inl q) = stops_or_read held w b a q p
one_first held w a b (inr p) (inr q) =
    p.twice ∙ ap (λ (ms : List Module). first_twice [] w.files (map (λ m. m.name) ms)) (same_modules held w.files p.modules q.modules p.sources q.sources) ∙ sym q.twice
