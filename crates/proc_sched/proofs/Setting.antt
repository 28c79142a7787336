-- The sets of ready processes and of deadlines, as a process leaves them and enters them.
use Rattle.std.proofs.Common.{◌≡◌, ℕ, zero, suc, ◌+◌, ◌<◌, ◌≤◌, Bool, true, false, not, nat_eq, nat_lt, ◌&&◌, ◌||◌, ◌⊎◌, inl, inr, List, [], ◌∷◌, length, Option, None, Some, refl, sym, ap, ap₂, subst, ◌∙◌, arith}
use Rattle.std.specs.Prelude.{slice_get, slice_set, cond}
use Rattle.std.specs.BTreeMap.{is_at}
use Rattle.std.specs.BTreeSet.{BTreeSet, contains, IsOrdered}
use Rattle.std.specs.List.{AllByRecursion, list_any}
use Rattle.std.specs.List.Sorted.{IsStrictlySortedBy}
use Rattle.std.specs.Ordering.{nat_cmp, ordering_then, is_eq}
use Rattle.std.specs.declared.cmp.Ordering.{Ordering}
use Rattle.std.specs.declared.cmp.Ordering.TheVariants.{Less, Equal, Greater}
use Rattle.std.proofs.lemmas.Bool.{ltb-true, lt-ltb, le-ltb, eq-eqb, ne_eqb, cond-true, cond-false, cases_order, cases_eq}
use Rattle.std.proofs.lemmas.Map.Keys.{sorted_head, sorted_tail}
use Rattle.ej_world.specs.Choices.{holds}
use Rattle.ej_world.specs.World.{Process, is_ready, numbers_from}
use Rattle.ej_world.proofs.Numbers.{within-numbers}
use Rattle.proc_sched.specs.Stands.{Rising, RisingFrom, is_in, ready_at, due_at, waits_for, is_deadline, pair_cmp, IsReadySet, IsDeadlineSet, Sets}
use Rattle.proc_sched.proofs.Rises.{rising-within, holds-below}

-- ---- what a comparison finds

pub at-number : (m n : ℕ) → is_at (nat_cmp m) n ≡ nat_eq m n
at-number m n = by (cases_order m n)
  where
    by : (m ≡ n) ⊎ ((m < n) ⊎ (n < m)) → is_at (nat_cmp m) n ≡ nat_eq m n
    by (inl e) =
        ap is_eq (cond-false (nat_lt m n) Less (cond (nat_eq m n) Equal Greater) (le-ltb m n (omega arith)) ∙ cond-true (nat_eq m n) Equal Greater (eq-eqb m n e)) ∙ sym (eq-eqb m n e)
    by (inr (inl lt)) = ap is_eq (cond-true (nat_lt m n) Less (cond (nat_eq m n) Equal Greater) (lt-ltb m n lt)) ∙ sym (ne_eqb m n (λ e. omega arith))
    by (inr (inr lt)) =
        ap is_eq (cond-false (nat_lt m n) Less (cond (nat_eq m n) Equal Greater) (le-ltb m n (omega arith)) ∙ cond-false (nat_eq m n) Equal Greater (ne_eqb m n (λ e. omega arith)))
        ∙ sym (ne_eqb m n (λ e. omega arith))

then-eq : (a b : Ordering) → is_eq (ordering_then a b) ≡ (is_eq a && is_eq b)
then-eq Less b = refl
then-eq Equal b = refl
then-eq Greater b = refl

pub at-pair : (d m e n : ℕ) → is_at (pair_cmp (d, m)) (e, n) ≡ (nat_eq d e && nat_eq m n)
at-pair d m e n = then-eq (nat_cmp d e) (nat_cmp m n) ∙ ap₂ (λ (a b : Bool). a && b) (at-number d e) (at-number m n)

pub eq-sym : (m n : ℕ) → nat_eq m n ≡ nat_eq n m
eq-sym m n = by (cases_eq m n)
  where
    by : (m ≡ n) ⊎ (m ≡ n → ⊥) → nat_eq m n ≡ nat_eq n m
    by (inl e) = eq-eqb m n e ∙ sym (eq-eqb n m (sym e))
    by (inr ne) = ne_eqb m n ne ∙ sym (ne_eqb n m (λ e. ne (sym e)))

-- ---- one key more or less

-- the set has a number, or has it not, and else what the other has
abbrev pub Has : (number : ℕ) → (b : Bool) → (old new : BTreeSet ℕ) → Type 0
Has number b old new = (q : ℕ) → contains nat_cmp new q ≡ cond (is_at (nat_cmp number) q) b (contains nat_cmp old q)

abbrev pub HasPair : (deadline number : ℕ) → (b : Bool) → (old new : BTreeSet (ℕ × ℕ)) → Type 0
HasPair deadline number b old new = (q : ℕ × ℕ) → contains pair_cmp new q ≡ cond (is_at (pair_cmp (deadline, number)) q) b (contains pair_cmp old q)

module _ (clock : ℕ) (ps : List Process) (number : ℕ) where
  pub ready-stays-out : (old : BTreeSet ℕ) → ready_at clock (slice_get ps number) ≡ false → IsReadySet (Some number) clock ps old → IsReadySet None clock ps old
  ready-stays-out old not_ready set n = by (cases_eq n number)
    where
      by : (n ≡ number) ⊎ (n ≡ number → ⊥) → contains nat_cmp old n ≡ ready_at clock (slice_get ps n)
      by (inl e) = set n ∙ (ap (λ b. not b && ready_at clock (slice_get ps n)) (eq-eqb n number e) ∙ sym (ap (λ k. ready_at clock (slice_get ps k)) e ∙ not_ready))
      by (inr ne) = set n ∙ ap (λ b. not b && ready_at clock (slice_get ps n)) (ne_eqb n number ne)

  -- ---- deadlines

  pub deadline-leaves : (deadline : ℕ) (old new : BTreeSet (ℕ × ℕ)) → due_at clock (slice_get ps number) ≡ Some deadline → HasPair deadline number false old new
      → IsDeadlineSet None clock ps old → IsDeadlineSet (Some number) clock ps new
  deadline-leaves deadline old new due has set d n = by (cases_eq n number)
    where
      at : is_at (pair_cmp (deadline, number)) (d, n) ≡ (nat_eq deadline d && nat_eq number n)
      at = at-pair deadline number d n

      gone : (b : Bool) → nat_eq d deadline ≡ b → n ≡ number → contains pair_cmp new (d, n) ≡ false
      gone true e same =
          has (d, n) ∙ cond-true (is_at (pair_cmp (deadline, number)) (d, n)) false (contains pair_cmp old (d, n))
          (at ∙ ap₂ (λ (a b : Bool). a && b) (eq-sym deadline d ∙ e) (eq-eqb number n (sym same)))
      gone false e same =
          has (d, n) ∙ cond-false (is_at (pair_cmp (deadline, number)) (d, n)) false (contains pair_cmp old (d, n)) (at ∙ ap (λ b. b && nat_eq number n) (eq-sym deadline d ∙ e))
          ∙ (set d n ∙ (ap (λ k. waits_for clock d (slice_get ps k)) same ∙ (ap (is_deadline d) due ∙ e)))

      and-false : (a b : Bool) → b ≡ false → (a && b) ≡ false
      and-false true b e = e
      and-false false b e = refl

      by : (n ≡ number) ⊎ (n ≡ number → ⊥) → contains pair_cmp new (d, n) ≡ (not (nat_eq n number) && waits_for clock d (slice_get ps n))
      by (inl e) = gone (nat_eq d deadline) refl e ∙ sym (ap (λ b. not b && waits_for clock d (slice_get ps n)) (eq-eqb n number e))
      by (inr ne) =
          has (d, n) ∙ cond-false (is_at (pair_cmp (deadline, number)) (d, n)) false (contains pair_cmp old (d, n)) (at ∙ and-false (nat_eq deadline d) (nat_eq number n) (ne_eqb number n (λ e. ne (sym e))))
          ∙ (set d n ∙ sym (ap (λ b. not b && waits_for clock d (slice_get ps n)) (ne_eqb n number ne)))

  pub deadline-enters : (deadline : ℕ) (old new : BTreeSet (ℕ × ℕ)) → due_at clock (slice_get ps number) ≡ Some deadline → HasPair deadline number true old new
      → IsDeadlineSet (Some number) clock ps old → IsDeadlineSet None clock ps new
  deadline-enters deadline old new due has set d n = by (cases_eq n number)
    where
      at : is_at (pair_cmp (deadline, number)) (d, n) ≡ (nat_eq deadline d && nat_eq number n)
      at = at-pair deadline number d n

      and-false : (a b : Bool) → b ≡ false → (a && b) ≡ false
      and-false true b e = e
      and-false false b e = refl

      here : (b : Bool) → nat_eq d deadline ≡ b → n ≡ number → contains pair_cmp new (d, n) ≡ b
      here true e same =
          has (d, n) ∙ cond-true (is_at (pair_cmp (deadline, number)) (d, n)) true (contains pair_cmp old (d, n))
          (at ∙ ap₂ (λ (a b : Bool). a && b) (eq-sym deadline d ∙ e) (eq-eqb number n (sym same)))
      here false e same =
          has (d, n) ∙ cond-false (is_at (pair_cmp (deadline, number)) (d, n)) true (contains pair_cmp old (d, n)) (at ∙ ap (λ b. b && nat_eq number n) (eq-sym deadline d ∙ e))
          ∙ (set d n ∙ ap (λ b. not b && waits_for clock d (slice_get ps n)) (eq-eqb n number same))

      by : (n ≡ number) ⊎ (n ≡ number → ⊥) → contains pair_cmp new (d, n) ≡ waits_for clock d (slice_get ps n)
      by (inl e) = here (nat_eq d deadline) refl e ∙ sym (ap (λ k. waits_for clock d (slice_get ps k)) e ∙ ap (is_deadline d) due)
      by (inr ne) =
          has (d, n) ∙ cond-false (is_at (pair_cmp (deadline, number)) (d, n)) true (contains pair_cmp old (d, n)) (at ∙ and-false (nat_eq deadline d) (nat_eq number n) (ne_eqb number n (λ e. ne (sym e))))
          ∙ (set d n ∙ ap (λ b. not b && waits_for clock d (slice_get ps n)) (ne_eqb n number ne))

  pub deadline-stays-out : (old : BTreeSet (ℕ × ℕ)) → due_at clock (slice_get ps number) ≡ None → IsDeadlineSet (Some number) clock ps old → IsDeadlineSet None clock ps old
  deadline-stays-out old due set d n = by (cases_eq n number)
    where
      by : (n ≡ number) ⊎ (n ≡ number → ⊥) → contains pair_cmp old (d, n) ≡ waits_for clock d (slice_get ps n)
      by (inl e) = set d n ∙ (ap (λ b. not b && waits_for clock d (slice_get ps n)) (eq-eqb n number e) ∙ sym (ap (λ k. waits_for clock d (slice_get ps k)) e ∙ ap (is_deadline d) due))
      by (inr ne) = set d n ∙ ap (λ b. not b && waits_for clock d (slice_get ps n)) (ne_eqb n number ne)

-- ---- other processes

-- two lists are the same to the sets, but at one number
abbrev pub SameBut : (out : Option ℕ) → (clock : ℕ) → (ps qs : List Process) → Type 0
SameBut out clock ps qs = (n : ℕ) → is_in out n ≡ true → (ready_at clock (slice_get qs n) ≡ ready_at clock (slice_get ps n)) × (due_at clock (slice_get qs n) ≡ due_at clock (slice_get ps n))

in-same : (a b c : Bool) → (a ≡ true → c ≡ b) → (a && b) ≡ (a && c)
in-same true b c e = sym (e refl)
in-same false b c e = refl

pub sets-same : (out : Option ℕ) (clock : ℕ) (ps qs : List Process) (ready : BTreeSet ℕ) (deadlines : BTreeSet (ℕ × ℕ)) → SameBut out clock ps qs → Sets out clock ps ready deadlines → Sets out clock qs ready deadlines
sets-same out clock ps qs ready deadlines same sets = record {
  ready' = λ n. sets.ready' n ∙ in-same (is_in out n) _ _ (λ is. (same n is).0);
  deadlines' = λ d n. sets.deadlines' d n ∙ in-same (is_in out n) _ _ (λ is. ap (is_deadline d) ((same n is).1));
}

pub set-other : {A : Type 0} (xs : List A) (k n : ℕ) (x : A) → (n ≡ k → ⊥) → slice_get (slice_set xs k x) n ≡ slice_get xs n
set-other [] k n x ne = refl
set-other (y ∷ xs) zero zero x ne = absurd (ne refl)
set-other (y ∷ xs) zero (suc n) x ne = refl
set-other (y ∷ xs) (suc k) zero x ne = refl
set-other (y ∷ xs) (suc k) (suc n) x ne = set-other xs k n x (λ e. ne (ap suc e))

pub in-other : (k n : ℕ) → not (nat_eq n k) ≡ true → n ≡ k → ⊥
in-other k n is e = by (sym is ∙ ap not (eq-eqb n k e))
  where
    by : true ≡ false → ⊥
    by e = cc

pub same-set : (clock : ℕ) (ps : List Process) (k : ℕ) (p : Process) → SameBut (Some k) clock ps (slice_set ps k p)
same-set clock ps k p n is =
    let same = set-other ps k n p (in-other k n is) in
    (ap (ready_at clock) same, ap (due_at clock) same)

-- ---- the ready processes in order

pub any-at : (ks : List ℕ) (n : ℕ) → list_any (is_at (nat_cmp n)) ks ≡ holds ks n
any-at [] n = refl
any-at (k ∷ ks) n = ap₂ (λ (a b : Bool). a || b) (at-number n k) (any-at ks n)

less-lt : (a b : ℕ) → nat_cmp a b ≡ Less → a < b
less-lt a b e = by (nat_lt a b) refl e
  where
    by : (t : Bool) → nat_lt a b ≡ t → cond t Less (cond (nat_eq a b) Equal Greater) ≡ Less → a < b
    by true lt e = ltb-true a b lt
    by false lt e = other (nat_eq a b) e
      where
        other : (t : Bool) → cond t Equal Greater ≡ Less → a < b
        other true e = absurd cc
        other false e = absurd cc

all-above : (k : ℕ) (ks : List ℕ) → AllByRecursion (λ y. nat_cmp k y ≡ Less) ks → AllByRecursion (λ y. k + 1 ≤ y) ks
all-above k [] all = tt
all-above k (y ∷ ks) all = (omega (arith, less-lt k y all.0), all-above k ks all.1)

sorted-from : (least : ℕ) (ks : List ℕ) → IsStrictlySortedBy nat_cmp ks → AllByRecursion (λ y. least ≤ y) ks → RisingFrom least ks
sorted-from least [] sorted all = tt
sorted-from least (k ∷ ks) sorted all = (all.0, sorted-from (k + 1) ks (sorted_tail nat_cmp k ks sorted) (all-above k ks (sorted_head nat_cmp k ks sorted)))

pub sorted-rising : (ks : List ℕ) → IsStrictlySortedBy nat_cmp ks → Rising ks
sorted-rising ks sorted = sorted-from 0 ks sorted (zeros ks)
  where
    zeros : (ks : List ℕ) → AllByRecursion (λ y. 0 ≤ y) ks
    zeros [] = tt
    zeros (k ∷ ks) = (omega arith, zeros ks)

-- two rising lists that hold the same are one
pub same-rising : (least : ℕ) (ms ns : List ℕ) → RisingFrom least ms → RisingFrom least ns → ((n : ℕ) → holds ms n ≡ holds ns n) → ms ≡ ns
same-rising least [] [] rise other same = refl
same-rising least [] (n ∷ ns) rise other same = absurd (differ (same n ∙ ap (λ b. b || holds ns n) (eq-eqb n n refl)))
  where
    differ : false ≡ true → ⊥
    differ e = cc
same-rising least (m ∷ ms) [] rise other same = absurd (differ (sym (same m) ∙ ap (λ b. b || holds ms m) (eq-eqb m m refl)))
  where
    differ : false ≡ true → ⊥
    differ e = cc
same-rising least (m ∷ ms) (n ∷ ns) rise other same = by (cases_order m n) (same-rising (m + 1) ms ns)
  where
    differ : true ≡ false → ⊥
    differ e = cc

    rest : m ≡ n → (k : ℕ) → holds ms k ≡ holds ns k
    rest e k = part (cases_order k m)
      where
        part : (k ≡ m) ⊎ ((k < m) ⊎ (m < k)) → holds ms k ≡ holds ns k
        part (inl is) = holds-below k (m + 1) ms (omega arith) rise.1 ∙ sym (holds-below k (n + 1) ns (omega arith) other.1)
        part (inr (inl lt)) = holds-below k (m + 1) ms (omega arith) rise.1 ∙ sym (holds-below k (n + 1) ns (omega arith) other.1)
        part (inr (inr lt)) = ap (λ b. b || holds ms k) (sym (ne_eqb k m (λ f. omega arith))) ∙ (same k ∙ ap (λ b. b || holds ns k) (ne_eqb k n (λ f. omega arith)))

    by : (m ≡ n) ⊎ ((m < n) ⊎ (n < m)) → (RisingFrom (m + 1) ms → RisingFrom (m + 1) ns → ((n : ℕ) → holds ms n ≡ holds ns n) → ms ≡ ns) → m ∷ ms ≡ n ∷ ns
    by (inl e) more = ap₂ (λ (k : ℕ) (ks : List ℕ). k ∷ ks) e (more rise.1 (subst (λ k. RisingFrom (k + 1) ns) (sym e) other.1) (rest e))
    by (inr (inl lt)) more = absurd (differ (sym (ap (λ b. b || holds ms m) (eq-eqb m m refl)) ∙ (same m ∙ holds-below m n (n ∷ ns) lt (omega arith, other.1))))
    by (inr (inr lt)) more = absurd (differ (sym (ap (λ b. b || holds ns n) (eq-eqb n n refl)) ∙ (sym (same n) ∙ holds-below n m (m ∷ ms) lt (omega arith, rise.1))))

-- ---- the numbers of processes that pass

abbrev pub passes_at : (Process → Bool) → Option Process → Bool
passes_at test None = false
passes_at test (Some p) = test p

pub rising-numbers : (test : Process → Bool) (number : ℕ) (ps : List Process) → RisingFrom number (numbers_from number test ps)
rising-numbers test number ps = rising-within number (number + length ps) (numbers_from number test ps) (within-numbers test number (number + length ps) ps (omega arith))

pub holds-passing : (test : Process → Bool) (number k n : ℕ) (ps : List Process) → n ≡ number + k → holds (numbers_from number test ps) n ≡ passes_at test (slice_get ps k)
holds-passing test number k n [] is = refl
holds-passing test number zero n (p ∷ ps) is =
    by (test p) refl
  where
    by : (b : Bool) → test p ≡ b → holds (cond b (number ∷ numbers_from (number + 1) test ps) (numbers_from (number + 1) test ps)) n ≡ b
    by true e = ap (λ b. b || holds (numbers_from (number + 1) test ps) n) (eq-eqb n number (omega arith))
    by false e = holds-below n (number + 1) (numbers_from (number + 1) test ps) (omega arith) (rising-numbers test (number + 1) ps)
holds-passing test number (suc k) n (p ∷ ps) is =
    by (test p) ∙ holds-passing test (number + 1) k n ps (omega arith)
  where
    by : (b : Bool) → holds (cond b (number ∷ numbers_from (number + 1) test ps) (numbers_from (number + 1) test ps)) n ≡ holds (numbers_from (number + 1) test ps) n
    by true = ap (λ b. b || holds (numbers_from (number + 1) test ps) n) (ne_eqb n number (λ e. omega arith))
    by false = refl

pub ready-passes : (clock : ℕ) (o : Option Process) → ready_at clock o ≡ passes_at (is_ready clock) o
ready-passes clock None = refl
ready-passes clock (Some p) = refl

-- the keys of the set of ready processes are their numbers in order
pub ready-keys : (clock : ℕ) (ps : List Process) (ready : BTreeSet ℕ) → IsReadySet None clock ps ready → IsOrdered nat_cmp ready → ready.keys ≡ numbers_from 0 (is_ready clock) ps
ready-keys clock ps ready set ordered =
    same-rising 0 ready.keys (numbers_from 0 (is_ready clock) ps) (sorted-rising ready.keys ordered) (rising-numbers (is_ready clock) 0 ps)
    (λ n. sym (any-at ready.keys n) ∙ (set n ∙ (ready-passes clock (slice_get ps n) ∙ sym (holds-passing (is_ready clock) 0 n n ps (omega arith)))))
