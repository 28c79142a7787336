-- `verify` refuses one file for one cause first, or none.
use Rattle.std.proofs.Common.{◌≡◌, ℕ, ◌<◌, ◌≤◌, ◌⊎◌, inl, inr, List, [], ◌∷◌, length, Option, None, Some, Result, Ok, Err, IsSomeAnd, refl, sym, ap, subst, ◌∙◌, arith}
use Rattle.std.specs.FinMap as files
use Rattle.std.specs.List.{AllByRecursion}
use Rattle.class_file.specs.declared.fault.ClassFault.{ClassFault}
use Rattle.class_file.specs.declared.fault.ClassFault.TheVariants as class_fault
use Rattle.class_verifier.specs.declared.fault.VerifyFault.{VerifyFault}
use Rattle.class_verifier.specs.declared.fault.VerifyFault.TheVariants as verify_fault
use Rattle.ej_outside.specs.Shelf.{Files}
use Rattle.jvm_code.specs.declared.class.Class.{Class}
use Rattle.jvm_code.specs.Fault as reading
use Rattle.jvm_code.specs.ReadClass.{ClassOf, read_class}
use Rattle.jvm_code.specs.Verification as verification
use Rattle.jvm_code.specs.Verification.{FirstFault, IsVerified}
use Rattle.erjang_top.specs.Answers.{Refusal, Absent, Longer, OfSource, NotBuilt, SameModule, OfClass, OfCode, Blame, longest_file}
use Rattle.erjang_top.specs.Verify.{IsVerifiedClass, IsGoodClass, IsNoClass, IsFirstFault, IsUnverified, IsBadClass, StopsAtClass, FirstClass}
use Rattle.erjang_top.proofs.OneFault.{one_fault, not_verified}
use Rattle.erjang_top.proofs.OneFirst.{some_same, some_none, same_blame}

-- Bytes are a verified class, or one thing is wrong with them.

abbrev read_fault : reading.Fault → ClassFault
read_fault (reading.NotClass offset) = class_fault.NotClass offset
read_fault (reading.OutsideProfile offset) = class_fault.OutsideProfile offset

-- what is wrong with bytes that are no class, as the reader says it
record Unread (bytes : List ℕ) (fault : ClassFault) : Type 0 where
  read : reading.Fault
  is : read_class bytes ≡ Err read
  same : read_fault read ≡ fault

unread : (bytes : List ℕ) (fault : ClassFault) → IsNoClass bytes fault → Unread bytes fault
unread bytes (class_fault.NotClass offset) p = record { read = reading.NotClass offset; is = p; same = refl }
unread bytes (class_fault.OutsideProfile offset) p = record { read = reading.OutsideProfile offset; is = p; same = refl }
unread bytes class_fault.NoMemory p = absurd p

errs_same : (a b : reading.Fault) → ◌≡◌ {A = Result Class reading.Fault} (Err a) (Err b) → a ≡ b
errs_same a b e = cc

oks_same : (a b : Class) → ◌≡◌ {A = Result Class reading.Fault} (Ok a) (Ok b) → a ≡ b
oks_same a b e = cc

ok_and_err : {G : Type 0} (a : Class) (b : reading.Fault) → ◌≡◌ {A = Result Class reading.Fault} (Ok a) (Err b) → G
ok_and_err a b e = absurd (cc)

one_no_class : (bytes : List ℕ) (a b : ClassFault) → IsNoClass bytes a → IsNoClass bytes b → a ≡ b
one_no_class bytes a b p q =
    let x = unread bytes a p in
    let y = unread bytes b q in
    sym x.same ∙ ap read_fault (errs_same x.read y.read (sym x.is ∙ y.is)) ∙ y.same

no_class_and_class : {G : Type 0} (bytes : List ℕ) (a : ClassFault) (class : Class) → IsNoClass bytes a → ClassOf bytes class → G
no_class_and_class bytes a class p q = let x = unread bytes a p in ok_and_err class x.read (sym q.1 ∙ x.is)

one_class : (bytes : List ℕ) (a b : Class) → ClassOf bytes a → ClassOf bytes b → a ≡ b
one_class bytes a b p q = oks_same a b (sym p.1 ∙ q.1)

abbrev verified_fault : verification.Fault → VerifyFault
verified_fault (verification.BadMap method) = verify_fault.BadMap method
verified_fault (verification.InCode method (verification.NotTyped offset)) = verify_fault.NotTyped method offset
verified_fault (verification.InCode method (verification.NotLinked offset)) = verify_fault.NotLinked method offset

-- what is wrong first with a class, as the rules say it
record Wrong (class : Class) (fault : VerifyFault) : Type 0 where
  first : verification.Fault
  is : FirstFault class first
  same : verified_fault first ≡ fault

wrong : (class : Class) (fault : VerifyFault) → IsFirstFault class fault → Wrong class fault
wrong class (verify_fault.BadMap method) p = record { first = verification.BadMap method; is = p; same = refl }
wrong class (verify_fault.NotTyped method offset) p = record { first = verification.InCode method (verification.NotTyped offset); is = p; same = refl }
wrong class (verify_fault.NotLinked method offset) p = record { first = verification.InCode method (verification.NotLinked offset); is = p; same = refl }
wrong class verify_fault.NoMemory p = absurd p

one_wrong : (class : Class) (a b : VerifyFault) → IsFirstFault class a → IsFirstFault class b → a ≡ b
one_wrong class a b p q =
    let x = wrong class a p in
    let y = wrong class b q in
    sym x.same ∙ ap verified_fault (one_fault class x.first y.first x.is y.is) ∙ y.same

one_unverified : (bytes : List ℕ) (a b : VerifyFault) → IsUnverified bytes a → IsUnverified bytes b → a ≡ b
one_unverified bytes a b p q =
    one_wrong q.class a b (subst (λ (c : Class). IsFirstFault c a) (one_class bytes p.class q.class p.of q.of) p.first) q.first

unverified_and_verified : {G : Type 0} (bytes : List ℕ) (a : VerifyFault) → IsUnverified bytes a → IsVerifiedClass bytes → G
unverified_and_verified bytes a p q =
    let x = wrong p.class a p.first in
    not_verified p.class x.first x.is (subst IsVerified (one_class bytes q.class p.class q.of p.of) q.verified)

-- what is wrong with bytes that are not too many
abbrev CauseOf : List ℕ → Option Refusal → Type 0
CauseOf bytes None = IsVerifiedClass bytes
CauseOf bytes (Some (OfClass fault)) = IsNoClass bytes fault
CauseOf bytes (Some (OfCode fault)) = IsUnverified bytes fault
CauseOf bytes (Some _) = ⊥

one_cause : (bytes : List ℕ) (a b : Option Refusal) → CauseOf bytes a → CauseOf bytes b → a ≡ b
one_cause bytes None None p q = refl
one_cause bytes None (Some (OfClass f)) p q = no_class_and_class bytes f p.class q p.of
one_cause bytes None (Some (OfCode f)) p q = unverified_and_verified bytes f q p
one_cause bytes (Some (OfClass e)) None p q = no_class_and_class bytes e q.class p q.of
one_cause bytes (Some (OfClass e)) (Some (OfClass f)) p q = ap (λ (c : ClassFault). Some (OfClass c)) (one_no_class bytes e f p q)
one_cause bytes (Some (OfClass e)) (Some (OfCode f)) p q = no_class_and_class bytes e q.class p q.of
one_cause bytes (Some (OfCode e)) None p q = unverified_and_verified bytes e p q
one_cause bytes (Some (OfCode e)) (Some (OfClass f)) p q = no_class_and_class bytes f p.class q p.of
one_cause bytes (Some (OfCode e)) (Some (OfCode f)) p q = ap (λ (c : VerifyFault). Some (OfCode c)) (one_unverified bytes e f p q)
one_cause bytes (Some Absent) b p q = absurd p
one_cause bytes (Some Longer) b p q = absurd p
one_cause bytes (Some (OfSource f)) b p q = absurd p
one_cause bytes (Some (NotBuilt func index)) b p q = absurd p
one_cause bytes (Some (SameModule earlier)) b p q = absurd p
one_cause bytes a (Some Absent) p q = absurd q
one_cause bytes a (Some Longer) p q = absurd q
one_cause bytes a (Some (OfSource f)) p q = absurd q
one_cause bytes a (Some (NotBuilt func index)) p q = absurd q
one_cause bytes a (Some (SameModule earlier)) p q = absurd q

-- So are files.

-- what a file is refused for, if anything, that is absent or has these bytes
abbrev Judges : Option (List ℕ) → Option Refusal → Type 0
Judges None cause = cause ≡ Some Absent
Judges (Some bytes) cause = ((longest_file < length bytes) × (cause ≡ Some Longer)) ⊎ ((length bytes ≤ longest_file) × CauseOf bytes cause)

one_judged : (o : Option (List ℕ)) (a b : Option Refusal) → Judges o a → Judges o b → a ≡ b
one_judged None a b p q = p ∙ sym q
one_judged (Some bytes) a b (inl p) (inl q) = p.1 ∙ sym q.1
one_judged (Some bytes) a b (inl p) (inr q) = absurd (omega (arith, p.0, q.0))
one_judged (Some bytes) a b (inr p) (inl q) = absurd (omega (arith, p.0, q.0))
one_judged (Some bytes) a b (inr p) (inr q) = one_cause bytes a b p.1 q.1

of_bytes : (o : Option (List ℕ)) (cause : Option Refusal) → IsSomeAnd o (λ bytes. (length bytes ≤ longest_file) × CauseOf bytes cause) → Judges o cause
of_bytes None cause p = absurd p
of_bytes (Some bytes) cause p = inr p

of_long : (o : Option (List ℕ)) → IsSomeAnd o (λ bytes. longest_file < length bytes) → Judges o (Some Longer)
of_long None p = absurd p
of_long (Some bytes) p = inl (p, refl)

of_none : (o : Option (List ℕ)) → o ≡ None → Judges o (Some Absent)
of_none None e = refl
of_none (Some bytes) e = absurd (cc)

-- what a file is
abbrev Alone : Files → List ℕ → Option Refusal → Type 0
Alone held file (Some cause) = IsBadClass held file cause
Alone held file None = IsGoodClass held file

judged : (held : Files) (file : List ℕ) (cause : Option Refusal) → Alone held file cause → Judges (files.get held file) cause
judged held file None p = of_bytes _ None p
judged held file (Some Absent) p = of_none _ p
judged held file (Some Longer) p = of_long _ p
judged held file (Some (OfClass f)) p = of_bytes _ (Some (OfClass f)) p
judged held file (Some (OfCode f)) p = of_bytes _ (Some (OfCode f)) p
judged held file (Some (OfSource f)) p = absurd p
judged held file (Some (NotBuilt func index)) p = absurd p
judged held file (Some (SameModule earlier)) p = absurd p

one_alone : (held : Files) (file : List ℕ) (a b : Option Refusal) → Alone held file a → Alone held file b → a ≡ b
one_alone held file a b p q = one_judged (files.get held file) a b (judged held file a p) (judged held file b q)

one_bad : (held : Files) (file : List ℕ) (a b : Refusal) → IsBadClass held file a → IsBadClass held file b → a ≡ b
one_bad held file a b p q = some_same a b (one_alone held file (Some a) (Some b) p q)

not_good_and_bad : {G : Type 0} (held : Files) (file : List ℕ) (a : Refusal) → IsBadClass held file a → IsGoodClass held file → G
not_good_and_bad held file a p q = some_none a (one_alone held file (Some a) None p q)

-- So are commands.

stops_same : (held : Files) (files : List (List ℕ)) (a b : Blame) → StopsAtClass held files a → StopsAtClass held files b → a ≡ b
stops_same held [] a b p q = absurd p
stops_same held (file ∷ files) a b (inl p) (inl q) = same_blame a b (p.0 ∙ sym q.0) (one_bad held file a.cause b.cause p.1 q.1)
stops_same held (file ∷ files) a b (inl p) (inr q) = not_good_and_bad held file a.cause p.1 q.0
stops_same held (file ∷ files) a b (inr p) (inl q) = not_good_and_bad held file b.cause q.1 p.0
stops_same held (file ∷ files) a b (inr p) (inr q) = stops_same held files a b p.1 q.1

not_all : {G : Type 0} (held : Files) (files : List (List ℕ)) (a : Blame) → StopsAtClass held files a → AllByRecursion (IsGoodClass held) files → G
not_all held [] a p q = absurd p
not_all held (file ∷ files) a (inl p) q = not_good_and_bad held file a.cause p.1 q.0
not_all held (file ∷ files) a (inr p) q = not_all held files a p.1 q.1

stops_both : (held : Files) (files : List (List ℕ)) (a b : Option Blame) → IsSomeAnd a (StopsAtClass held files) → IsSomeAnd b (StopsAtClass held files) → a ≡ b
stops_both held files None b p q = absurd p
stops_both held files (Some a) None p q = absurd q
stops_both held files (Some a) (Some b) p q = ap (λ (x : Blame). Some x) (stops_same held files a b p q)

stops_or_all : {G : Type 0} (held : Files) (files : List (List ℕ)) (a : Option Blame) → IsSomeAnd a (StopsAtClass held files) → AllByRecursion (IsGoodClass held) files → G
stops_or_all held files None p q = absurd p
stops_or_all held files (Some a) p q = not_all held files a p q

pub one_first_class : (held : Files) (files : List (List ℕ)) (a b : Option Blame) → FirstClass held files a → FirstClass held files b → a ≡ b
one_first_class held files a b (inl p) (inl q) = stops_both held files a b p q
one_first_class held files a b (inl p) (inr q) = stops_or_all held files a p q.1
one_first_class held files a b (inr p) (inl q) = stops_or_all held files b q p.1
one_first_class held files a b (inr p) (inr q) = p.0 ∙ sym q.0
