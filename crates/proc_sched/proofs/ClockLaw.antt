-- The ready processes and the deadlines to come: which is the least, and how the clock wakes those that wait.
use Rattle.std.proofs.Common.{◌≡◌, ℕ, zero, suc, ◌+◌, ◌<◌, ◌≤◌, min, Bool, true, false, nat_eq, nat_lt, nat_le, ◌||◌, ◌⊎◌, inl, inr, List, [], ◌∷◌, length, Bor, Option, None, Some, refl, sym, ap, ap₂, subst, ◌∙◌, arith}
use Rattle.std.specs.Prelude.{slice_get, cond, IsSome, IfSome, IsTrue, ◌↔◌}
use Rattle.std.specs.BTreeMap.{is_at}
use Rattle.std.specs.BTreeMap.Range.{IsLeBy}
use Rattle.std.specs.BTreeSet.{BTreeSet, contains, IsLowerBound, Updates, IsKeyRangeOf, IsKeyInRange}
use Rattle.std.specs.List.{find, flat_map, list_any}
use Rattle.std.specs.Cmp.{both_ways}
use Rattle.std.specs.Option.{is_some, option_copied, option_map_or, MatchOption}
use Rattle.std.specs.Ordering.{nat_cmp, is_gt}
use Rattle.std.specs.declared.cmp.Ordering.TheVariants.{Less, Equal, Greater}
use Rattle.std.specs.declared.ops.Bound.TheVariants.{Included, Unbounded}
use Rattle.std.proofs.lemmas.Bool.{ltb-true, lt-ltb, leb-true, leb-false, le-leb, lt-leb, eq-eqb, eqb-true, ne_eqb, or_left, or_right, or_parts, or_cases, and_parts, cond-true, cond-false, cases_order}
use Rattle.std.proofs.lemmas.List.{nil_from_length}
use Rattle.std.proofs.lemmas.List.Folds.{list_any-append}
use Rattle.std.proofs.lemmas.Option.{slice_get_past, slice_get_within}
use Rattle.ej_world.specs.Auto as auto
use Rattle.ej_world.specs.Auto.{above, as_list, deadline_in, least}
use Rattle.ej_world.specs.Choices.{holds}
use Rattle.ej_world.specs.declared.event.Event.TheVariants as event
use Rattle.ej_world.specs.World.{Process, Status, Running, Waiting, Ended, limit, is_due, is_ready, is_ready_in, numbers_from}
use Rattle.proc_sched.specs.declared.node.Node.{Node}
use Rattle.proc_sched.specs.Nodes.{SetsOf, Wakes, clocks, shows, with_sets}
use Rattle.proc_sched.specs.Stands.{RisingFrom, ready_at, is_deadline, if_later, to_come_in, waits_for, pair_cmp, IsReadySet, IsDeadlineSet, Sets, IsNode, Does, processes_of, world_of}
use Rattle.proc_sched.proofs.FirstPair.{before-greater, lt-greater, eq-equal}
use Rattle.proc_sched.proofs.Rises.{holds-below}
use Rattle.proc_sched.proofs.Setting.{Has, HasPair, at-number, at-pair, ready-passes, holds-passing, rising-numbers}

-- ---- comparisons

differ : true ≡ false → ⊥
differ e = cc

not-greater : (a b : ℕ) → is_gt (nat_cmp a b) ≡ false → a ≤ b
not-greater a b e = by (cases_order a b)
  where
    by : (a ≡ b) ⊎ ((a < b) ⊎ (b < a)) → a ≤ b
    by (inl is) = omega arith
    by (inr (inl lt)) = omega arith
    by (inr (inr lt)) = absurd (differ (sym (ap is_gt (lt-greater a b lt)) ∙ e))

le-not-greater : (a b : ℕ) → a ≤ b → is_gt (nat_cmp a b) ≡ false
le-not-greater a b le = by (cases_order a b)
  where
    by : (a ≡ b) ⊎ ((a < b) ⊎ (b < a)) → is_gt (nat_cmp a b) ≡ false
    by (inl is) = ap is_gt (eq-equal a b is)
    by (inr (inl lt)) = ap is_gt (cond-true (nat_lt a b) Less (cond (nat_eq a b) Equal Greater) (lt-ltb a b lt))
    by (inr (inr lt)) = absurd (omega arith)

-- a set with no first key has none
pub no-keys : {A K : Type 0} (o : Option A) (keys : List K) → o ≡ None → (IsSome o ↔ (0 < length keys)) → keys ≡ []
no-keys o keys is variant = nil_from_length keys (omega (arith, some))
  where
    some : 0 < length keys → ⊥
    some lt = differ (sym (variant.1 lt) ∙ ap is_some is)

-- ---- the first of rising numbers that passes

find-rising : (test : ℕ → Bool) (least : ℕ) (ns : List ℕ) (k : ℕ) → RisingFrom least ns → holds ns k ≡ true → test k ≡ true → ((q : ℕ) → holds ns q ≡ true → test q ≡ true → k ≤ q) → find test ns ≡ Some k
find-rising test least [] k rise has passes first = absurd (differ (sym has))
find-rising test least (n ∷ ns) k rise has passes first = by (cases_order n k) (find-rising test (n + 1) ns k rise.1)
  where
    by : (n ≡ k) ⊎ ((n < k) ⊎ (k < n)) → (holds ns k ≡ true → test k ≡ true → ((q : ℕ) → holds ns q ≡ true → test q ≡ true → k ≤ q) → find test ns ≡ Some k) → cond (test n) (Some n) (find test ns) ≡ Some k
    by (inl is) rest = cond-true (test n) (Some n) (find test ns) (ap test is ∙ passes) ∙ ap Some is
    by (inr (inl lt)) rest = cond-false (test n) (Some n) (find test ns) (fails (test n) refl) ∙ rest (sym (ap (λ b. b || holds ns k) (ne_eqb k n (λ e. omega arith))) ∙ has) passes (λ q held. first q (or_right (nat_eq q n) (holds ns q) held))
      where
        fails : (b : Bool) → test n ≡ b → test n ≡ false
        fails true e = let le = first n (or_left (nat_eq n n) (holds ns n) (eq-eqb n n refl)) e in absurd (omega (arith, le))
        fails false e = e
    by (inr (inr lt)) rest = absurd (differ (sym has ∙ holds-below k n (n ∷ ns) lt (omega arith, rise.1)))

find-none : (test : ℕ → Bool) (ns : List ℕ) → ((q : ℕ) → holds ns q ≡ true → test q ≡ false) → find test ns ≡ None
find-none test [] none = refl
find-none test (n ∷ ns) none =
    cond-false (test n) (Some n) (find test ns) (none n (or_left (nat_eq n n) (holds ns n) (eq-eqb n n refl)))
    ∙ find-none test ns (λ q held. none q (or_right (nat_eq q n) (holds ns q) held))

-- ---- the least ready process

module _ (clock : ℕ) (ps : List Process) (ready : BTreeSet ℕ) (set : IsReadySet None clock ps ready) where
  holds-ready : (n : ℕ) → holds (numbers_from 0 (is_ready clock) ps) n ≡ contains nat_cmp ready n
  holds-ready n = holds-passing (is_ready clock) 0 n n ps (omega arith) ∙ (sym (ready-passes clock (slice_get ps n)) ∙ sym (set n))

  least-ready : (test : ℕ → Bool) (k : ℕ) → contains nat_cmp ready k ≡ true → test k ≡ true → ((q : ℕ) → contains nat_cmp ready q ≡ true → test q ≡ true → k ≤ q) → find test (numbers_from 0 (is_ready clock) ps) ≡ Some k
  least-ready test k has passes first =
      find-rising test 0 (numbers_from 0 (is_ready clock) ps) k (rising-numbers (is_ready clock) 0 ps) (holds-ready k ∙ has) passes (λ q held. first q (sym (holds-ready q) ∙ held))

  none-ready : (test : ℕ → Bool) → ((q : ℕ) → contains nat_cmp ready q ≡ true → test q ≡ false) → find test (numbers_from 0 (is_ready clock) ps) ≡ None
  none-ready test none = find-none test (numbers_from 0 (is_ready clock) ps) (λ q held. none q (sym (holds-ready q) ∙ held))

  -- the first key, if there is one
  pub first-ready : (o : Option (Bor ℕ)) (r : Option ℕ) → r ≡ option_copied o → (IsSome o ↔ (0 < length ready.keys)) → IfSome o (λ k. IsTrue (contains nat_cmp ready k.now)) → IfSome o (λ k. IsLowerBound nat_cmp ready k.now)
      → r ≡ find (above None) (numbers_from 0 (is_ready clock) ps)
  first-ready None r is variant member least = is ∙ sym (none-ready (above None) (λ q has. absurd (differ (sym has ∙ ap (list_any (is_at (nat_cmp q))) (no-keys {A = Bor ℕ} None ready.keys refl variant)))))
  first-ready (Some k) r is variant member least = is ∙ sym (least-ready (above None) k.now member refl (λ q has passes. not-greater k.now q (least q has)))

  -- the first key from the number above the last, if there is one
  pub ready-above : (last first : ℕ) (o : Option (Bor ℕ)) (r : Option ℕ) (found rest : List ℕ) → r ≡ option_copied o → first ≡ last + 1 → MatchOption o ((found ≡ []) × (rest ≡ [])) (λ k. found ≡ k.now ∷ rest)
      → IsKeyRangeOf nat_cmp (Included first) Unbounded ready found → r ≡ find (above (Some last)) (numbers_from 0 (is_ready clock) ps)
  ready-above last first None r found rest is from steps range =
      is ∙ sym (none-ready (above (Some last)) (λ q has. fails q has (nat_lt last q) refl))
    where
      fails : (q : ℕ) → contains nat_cmp ready q ≡ true → (b : Bool) → nat_lt last q ≡ b → nat_lt last q ≡ false
      fails q has true e = absurd (differ (sym has ∙ range.5 steps.0 q (le-not-greater first q (omega (arith, ltb-true last q e)), tt)))
      fails q has false e = e
  ready-above last first (Some k) r found rest is from steps range =
      is ∙ sym (least-ready (above (Some last)) k.now here.1 (lt-ltb last k.now (omega (arith, not-greater first k.now here.0.0)))
      (λ q has passes. not-greater k.now q (subst (λ ks. IfSome (slice_get ks 0) (λ k. IsLeBy nat_cmp k q)) steps (range.2 q (le-not-greater first q (omega (arith, ltb-true last q passes)), tt) has))))
    where
      here : IsKeyInRange nat_cmp (Included first) Unbounded ready k.now
      here = subst (λ ks. IfSome (slice_get ks 0) (IsKeyInRange nat_cmp (Included first) Unbounded ready)) steps range.1

  -- no number of a process is above the last
  pub ready-past : (last : ℕ) → length ps ≤ last + 1 → None ≡ find (above (Some last)) (numbers_from 0 (is_ready clock) ps)
  ready-past last le = sym (none-ready (above (Some last)) (λ q has. fails q has (nat_lt last q) refl))
    where
      fails : (q : ℕ) → contains nat_cmp ready q ≡ true → (b : Bool) → nat_lt last q ≡ b → nat_lt last q ≡ false
      fails q has true e = absurd (differ (sym has ∙ (set q ∙ ap (ready_at clock) (slice_get_past ps q (omega (arith, ltb-true last q e))))))
      fails q has false e = e

-- ---- waiting processes

-- a process waits for a deadline that is to come
pub record Waits (clock deadline : ℕ) (p : Process) : Type 0 where
  pub status : p.status ≡ Waiting
  pub timer : p.timer ≡ Some deadline
  pub later : clock < deadline

waits-timer : (clock d : ℕ) (t : Option ℕ) → is_deadline d (if_later clock t) ≡ true → (t ≡ Some d) × (clock < d)
waits-timer clock d None e = absurd (differ (sym e))
waits-timer clock d (Some m) e = by (nat_lt clock m) refl e
  where
    by : (b : Bool) → nat_lt clock m ≡ b → is_deadline d (cond b (Some m) None) ≡ true → (◌≡◌ {A = Option ℕ} (Some m) (Some d)) × (clock < d)
    by true lt e = (ap Some (sym (eqb-true d m e)), omega (arith, ltb-true clock m lt, eqb-true d m e))
    by false lt e = absurd (differ (sym e))

pub waits-of : (clock d : ℕ) (p : Process) → waits_for clock d (Some p) ≡ true → Waits clock d p
waits-of clock d p e = by p.status refl e
  where
    by : (s : Status) → p.status ≡ s → is_deadline d (to_come_in clock s p.timer) ≡ true → Waits clock d p
    by Running is e = absurd (differ (sym e))
    by Ended is e = absurd (differ (sym e))
    by Waiting is e = let parts = waits-timer clock d p.timer e in record { status = is; timer = parts.0; later = parts.1 }

pub to-wait : (clock d : ℕ) (p : Process) → Waits clock d p → waits_for clock d (Some p) ≡ true
to-wait clock d p waits =
    ap₂ (λ (s : Status) (t : Option ℕ). is_deadline d (to_come_in clock s t)) waits.status waits.timer
    ∙ (ap (is_deadline d) (cond-true (nat_lt clock d) (Some d) None (lt-ltb clock d waits.later)) ∙ eq-eqb d d refl)

-- ---- the deadlines of the processes that wait

abbrev deadlines_of : List Process → List ℕ
deadlines_of ps = flat_map (λ (p : Process). deadline_in p.status p) ps

held-deadline : (clock d : ℕ) (p : Process) → Waits clock d p → holds (deadline_in p.status p) d ≡ true
held-deadline clock d p waits = ap (λ s. holds (deadline_in s p) d) waits.status ∙ (ap (λ t. holds (as_list t) d) waits.timer ∙ or_left (nat_eq d d) false (eq-eqb d d refl))

-- where a process is not ready, its deadline is to come
waiting-deadline : (clock d : ℕ) (p : Process) → is_ready clock p ≡ false → holds (deadline_in p.status p) d ≡ true → Waits clock d p
waiting-deadline clock d p not_ready held = by p.status refl not_ready held
  where
    timer : (t : Option ℕ) → p.timer ≡ t → is_due clock t ≡ false → holds (as_list t) d ≡ true → (p.timer ≡ Some d) × (clock < d)
    timer None is due held = absurd (differ (sym held))
    timer (Some m) is due held = same (or_cases (nat_eq d m) false held)
      where
        same : (nat_eq d m ≡ true) ⊎ (false ≡ true) → (p.timer ≡ Some d) × (clock < d)
        same (inl e) = (is ∙ ap Some (sym (eqb-true d m e)), omega (arith, leb-false m clock due, eqb-true d m e))
        same (inr e) = absurd (differ (sym e))

    by : (s : Status) → p.status ≡ s → is_ready_in clock p s ≡ false → holds (deadline_in s p) d ≡ true → Waits clock d p
    by Running is not_ready held = absurd (differ not_ready)
    by Ended is not_ready held = absurd (differ (sym held))
    by Waiting is not_ready held =
        let parts = timer p.timer refl (or_parts (nat_lt p.save (length p.messages)) (is_due clock p.timer) not_ready).1 held in
        record { status = is; timer = parts.0; later = parts.1 }

-- a deadline for which a process waits is among them
waits-held : (clock d n : ℕ) (ps : List Process) → waits_for clock d (slice_get ps n) ≡ true → holds (deadlines_of ps) d ≡ true
waits-held clock d n [] e = absurd (differ (sym e))
waits-held clock d zero (p ∷ ps) e =
    list_any-append (nat_eq d) (deadline_in p.status p) (deadlines_of ps) ∙ or_left (holds (deadline_in p.status p) d) (holds (deadlines_of ps) d) (held-deadline clock d p (waits-of clock d p e))
waits-held clock d (suc n) (p ∷ ps) e =
    list_any-append (nat_eq d) (deadline_in p.status p) (deadlines_of ps) ∙ or_right (holds (deadline_in p.status p) d) (holds (deadlines_of ps) d) (waits-held clock d n ps e)

-- where no process is ready, for each of them a process waits
held-waits : {P : Type 0} (clock d number : ℕ) (ps : List Process) → numbers_from number (is_ready clock) ps ≡ [] → ((n : ℕ) → waits_for clock d (slice_get ps n) ≡ true → P) → holds (deadlines_of ps) d ≡ true → P
held-waits clock d number [] none f held = absurd (differ (sym held))
held-waits {P} clock d number (p ∷ ps) none f held =
    by (or_cases (holds (deadline_in p.status p) d) (holds (deadlines_of ps) d) (sym (list_any-append (nat_eq d) (deadline_in p.status p) (deadlines_of ps)) ∙ held)) (apart (is_ready clock p) refl none)
    (λ rest. held-waits clock d (number + 1) ps rest (λ n waits. f (suc n) waits))
  where
    apart : (b : Bool) → is_ready clock p ≡ b → cond b (number ∷ numbers_from (number + 1) (is_ready clock) ps) (numbers_from (number + 1) (is_ready clock) ps) ≡ []
        → (is_ready clock p ≡ false) × (numbers_from (number + 1) (is_ready clock) ps ≡ [])
    apart true e none = absurd cc
    apart false e none = (e, none)

    by : (holds (deadline_in p.status p) d ≡ true) ⊎ (holds (deadlines_of ps) d ≡ true) → (is_ready clock p ≡ false) × (numbers_from (number + 1) (is_ready clock) ps ≡ [])
        → (numbers_from (number + 1) (is_ready clock) ps ≡ [] → holds (deadlines_of ps) d ≡ true → P) → P
    by (inl here) parts more = f zero (to-wait clock d p (waiting-deadline clock d p parts.0 here))
    by (inr there) parts more = more parts.1 there

-- ---- the least number

abbrev AtLeast : ℕ → Option ℕ → Type 0
AtLeast d None = Unit {0}
AtLeast d (Some m) = d ≤ m

least-from : (d : ℕ) (ns : List ℕ) → ((q : ℕ) → holds ns q ≡ true → d ≤ q) → AtLeast d (least ns)
least-from d [] all = tt
least-from d (n ∷ ns) all = by (least ns) (least-from d ns (λ q held. all q (or_right (nat_eq q n) (holds ns q) held))) (all n (or_left (nat_eq n n) (holds ns n) (eq-eqb n n refl)))
  where
    by : (o : Option ℕ) → AtLeast d o → d ≤ n → d ≤ option_map_or (min n) o n
    by None rest le = le
    by (Some m) rest le = omega (arith, rest)

least-is : (d : ℕ) (ns : List ℕ) → holds ns d ≡ true → ((q : ℕ) → holds ns q ≡ true → d ≤ q) → least ns ≡ Some d
least-is d [] has all = absurd (differ (sym has))
least-is d (n ∷ ns) has all = by (cases_order d n) (λ here. least-is d ns here (λ q held. all q (or_right (nat_eq q n) (holds ns q) held)))
  where
    rest : (q : ℕ) → holds ns q ≡ true → d ≤ q
    rest q held = all q (or_right (nat_eq q n) (holds ns q) held)

    here : (o : Option ℕ) → AtLeast d o → d ≡ n → option_map_or (min n) o n ≡ d
    here None le is = sym is
    here (Some m) le is = omega (arith, le)

    by : (d ≡ n) ⊎ ((d < n) ⊎ (n < d)) → (holds ns d ≡ true → least ns ≡ Some d) → ◌≡◌ {A = Option ℕ} (Some (option_map_or (min n) (least ns) n)) (Some d)
    by (inl is) more = ap Some (here (least ns) (least-from d ns rest) is)
    by (inr (inl lt)) more =
        let there = more (sym (ap (λ b. b || holds ns d) (ne_eqb d n (λ e. omega arith))) ∙ has) in
        let less : min n d ≡ d = omega arith in
        ap Some (ap (λ o. option_map_or (min n) o n) there ∙ less)
    by (inr (inr lt)) more = let le = all n (or_left (nat_eq n n) (holds ns n) (eq-eqb n n refl)) in absurd (omega (arith, le))

none-least : (ns : List ℕ) → ((q : ℕ) → holds ns q ≡ true → ⊥) → least ns ≡ None
none-least [] none = refl
none-least (n ∷ ns) none = absurd (none n (or_left (nat_eq n n) (holds ns n) (eq-eqb n n refl)))

-- ---- the earliest deadline

pair-least : (p q : ℕ × ℕ) → is_gt (pair_cmp p q) ≡ false → p.0 ≤ q.0
pair-least p q e = by (cases_order p.0 q.0)
  where
    by : (p.0 ≡ q.0) ⊎ ((p.0 < q.0) ⊎ (q.0 < p.0)) → p.0 ≤ q.0
    by (inl is) = omega arith
    by (inr (inl lt)) = omega arith
    by (inr (inr lt)) = absurd (differ (sym (before-greater p q (inl lt)) ∙ e))

module _ (clock : ℕ) (ps : List Process) (deadlines : BTreeSet (ℕ × ℕ)) (set : IsDeadlineSet None clock ps deadlines) (none : numbers_from 0 (is_ready clock) ps ≡ []) where
  pub first-deadline : (p : ℕ × ℕ) → contains pair_cmp deadlines p ≡ true → IsLowerBound pair_cmp deadlines p → least (deadlines_of ps) ≡ Some p.0
  first-deadline p has lower =
      least-is p.0 (deadlines_of ps) (waits-held clock p.0 p.1 ps (sym (set p.0 p.1) ∙ has))
      (λ q held. held-waits clock q 0 ps none (λ n waits. pair-least p (q, n) (lower (q, n) (set q n ∙ waits))) held)

  pub no-deadline : deadlines.keys ≡ [] → least (deadlines_of ps) ≡ None
  no-deadline empty = none-least (deadlines_of ps) (λ q held. held-waits clock q 0 ps none (λ n waits. differ (sym (set q n ∙ waits) ∙ ap (list_any (is_at (pair_cmp (q, n)))) empty)) held)

-- the clock can come to it, or not
-- a deadline that is to come is later
pub to-come-later : (clock : ℕ) (ps : List Process) (deadlines : BTreeSet (ℕ × ℕ)) → IsDeadlineSet None clock ps deadlines → (p : ℕ × ℕ) → contains pair_cmp deadlines p ≡ true → clock ≤ p.0
to-come-later clock ps deadlines set p has = by (slice_get ps p.1) (sym (set p.0 p.1) ∙ has)
  where
    by : (o : Option Process) → waits_for clock p.0 o ≡ true → clock ≤ p.0
    by None waits = absurd cc
    by (Some q) waits = let later = (waits-of clock p.0 q waits).later in omega arith

pub comes : (d : ℕ) (o : Option ℕ) → o ≡ Some d → d ≤ limit → Some d ≡ auto.to_come o
comes d o is le = sym (ap auto.to_come is ∙ cond-true (nat_le d limit) (Some d) None (le-leb d limit le))

pub comes-not : (d : ℕ) (o : Option ℕ) → o ≡ Some d → limit < d → None ≡ auto.to_come o
comes-not d o is lt = sym (ap auto.to_come is ∙ cond-false (nat_le d limit) (Some d) None (lt-leb d limit lt))

pub comes-none : (o : Option ℕ) → o ≡ None → None ≡ auto.to_come o
comes-none o is = sym (ap auto.to_come is)

-- ---- a process as the clock goes on

due-later : (before clock : ℕ) (t : Option ℕ) → before ≤ clock → is_due before t ≡ true → is_due clock t ≡ true
due-later before clock None le e = e
due-later before clock (Some d) le e = le-leb d clock (omega (arith, leb-true d before e))

ready-later : (before clock : ℕ) (o : Option Process) → before ≤ clock → ready_at before o ≡ true → ready_at clock o ≡ true
ready-later before clock None le e = e
ready-later before clock (Some p) le e = by p.status e
  where
    either : (is_due before p.timer ≡ true → is_due clock p.timer ≡ true) → (b : Bool) → (b || is_due before p.timer) ≡ true → (b || is_due clock p.timer) ≡ true
    either f true e = e
    either f false e = f e

    by : (s : Status) → is_ready_in before p s ≡ true → is_ready_in clock p s ≡ true
    by Running e = e
    by Waiting e = either (due-later before clock p.timer le) (nat_lt p.save (length p.messages)) e
    by Ended e = e

-- a process whose deadline has come is ready
ready-due : (before clock d : ℕ) (o : Option Process) → waits_for before d o ≡ true → d ≤ clock → ready_at clock o ≡ true
ready-due before clock d None e le = absurd (differ (sym e))
ready-due before clock d (Some p) e le =
    let waits = waits-of before d p e in
    ap (is_ready_in clock p) waits.status ∙ or_right (nat_lt p.save (length p.messages)) (is_due clock p.timer) (ap (is_due clock) waits.timer ∙ le-leb d clock le)

-- it waits for the deadline at each time before it
waits-at : (before clock d : ℕ) (o : Option Process) → waits_for before d o ≡ true → clock < d → waits_for clock d o ≡ true
waits-at before clock d None e lt = absurd (differ (sym e))
waits-at before clock d (Some p) e lt = let waits = waits-of before d p e in to-wait clock d p (record { status = waits.status; timer = waits.timer; later = lt })

waits-later : (clock d : ℕ) (o : Option Process) → waits_for clock d o ≡ true → clock < d
waits-later clock d None e = absurd (differ (sym e))
waits-later clock d (Some p) e = (waits-of clock d p e).later

-- a process that was not ready and is now waited for a deadline that has come
became-ready : {P : Type 0} (before clock : ℕ) (o : Option Process) → ready_at clock o ≡ true → ready_at before o ≡ false → ((d : ℕ) → waits_for before d o ≡ true → d ≤ clock → P) → P
became-ready before clock None e not_before f = absurd (differ (sym e))
became-ready {P} before clock (Some p) e not_before f = by p.status refl e not_before
  where
    timer : p.status ≡ Waiting → (t : Option ℕ) → p.timer ≡ t → is_due clock t ≡ true → is_due before t ≡ false → P
    timer waits None is due not_due = absurd (differ (sym due))
    timer waits (Some d) is due not_due = f d (to-wait before d p (record { status = waits; timer = is; later = leb-false d before not_due })) (leb-true d clock due)

    by : (s : Status) → p.status ≡ s → is_ready_in clock p s ≡ true → is_ready_in before p s ≡ false → P
    by Running is e not_before = absurd (differ not_before)
    by Ended is e not_before = absurd (differ (sym e))
    by Waiting is e not_before = either (or_cases (nat_lt p.save (length p.messages)) (is_due clock p.timer) e) (or_parts (nat_lt p.save (length p.messages)) (is_due before p.timer) not_before)
      where
        either : (nat_lt p.save (length p.messages) ≡ true) ⊎ (is_due clock p.timer ≡ true) → (nat_lt p.save (length p.messages) ≡ false) × (is_due before p.timer ≡ false) → P
        either (inl message) none = absurd (differ (sym message ∙ none.0))
        either (inr due) none = timer is p.timer refl due none.1

-- ---- the sets while processes are woken

-- each deadline that is left is one of the time before, and those that are not left have come
pub record Woken (before clock : ℕ) (ps : List Process) (ready : BTreeSet ℕ) (deadlines : BTreeSet (ℕ × ℕ)) : Type 0 where
  pub held : (d n : ℕ) → contains pair_cmp deadlines (d, n) ≡ true → waits_for before d (slice_get ps n) ≡ true
  pub left : (d n : ℕ) → waits_for before d (slice_get ps n) ≡ true → (contains pair_cmp deadlines (d, n) ≡ true) ⊎ ((d ≤ clock) × (contains nat_cmp ready n ≡ true))
  pub woken : (n : ℕ) → contains nat_cmp ready n ≡ true → ready_at clock (slice_get ps n) ≡ true
  pub kept : (n : ℕ) → ready_at before (slice_get ps n) ≡ true → contains nat_cmp ready n ≡ true

woken-none : (before clock : ℕ) (ps : List Process) (ready : BTreeSet ℕ) (deadlines : BTreeSet (ℕ × ℕ)) → before ≤ clock → Sets None before ps ready deadlines → Woken before clock ps ready deadlines
woken-none before clock ps ready deadlines le sets = record {
  held = λ d n has. sym (sets.deadlines' d n) ∙ has;
  left = λ d n waits. inl (sets.deadlines' d n ∙ waits);
  woken = λ n has. ready-later before clock (slice_get ps n) le (sym (sets.ready' n) ∙ has);
  kept = λ n is. sets.ready' n ∙ is;
}

set-here : (b c : Bool) → c ≡ true → cond b true c ≡ true
set-here true c e = refl
set-here false c e = e

woken-more : (before clock : ℕ) (ps : List Process) (ready more : BTreeSet ℕ) (deadlines rest : BTreeSet (ℕ × ℕ)) (d n : ℕ) → d ≤ clock → contains pair_cmp deadlines (d, n) ≡ true → HasPair d n false deadlines rest → Has n true ready more
    → Woken before clock ps ready deadlines → Woken before clock ps more rest
woken-more before clock ps ready more deadlines rest d n le was out in' so_far = record {
  held = λ e m has. so_far.held e m (gone (is_at (pair_cmp (d, n)) (e, m)) (contains pair_cmp deadlines (e, m)) (sym (out (e, m)) ∙ has));
  left = λ e m waits. still e m (so_far.left e m waits);
  woken = λ m has. now m (is_at (nat_cmp n) m) refl (sym (in' m) ∙ has);
  kept = λ m is. in' m ∙ set-here (is_at (nat_cmp n) m) (contains nat_cmp ready m) (so_far.kept m is);
}
  where
    gone : (b c : Bool) → cond b false c ≡ true → c ≡ true
    gone true c e = absurd (differ (sym e))
    gone false c e = e

    still : (e m : ℕ) → (contains pair_cmp deadlines (e, m) ≡ true) ⊎ ((e ≤ clock) × (contains nat_cmp ready m ≡ true)) → (contains pair_cmp rest (e, m) ≡ true) ⊎ ((e ≤ clock) × (contains nat_cmp more m ≡ true))
    still e m (inr come) = inr (come.0, in' m ∙ set-here (is_at (nat_cmp n) m) (contains nat_cmp ready m) come.1)
    still e m (inl has) = by (is_at (pair_cmp (d, n)) (e, m)) refl
      where
        by : (b : Bool) → is_at (pair_cmp (d, n)) (e, m) ≡ b → (contains pair_cmp rest (e, m) ≡ true) ⊎ ((e ≤ clock) × (contains nat_cmp more m ≡ true))
        by true at =
            let parts = and_parts (nat_eq d e) (nat_eq n m) (sym (at-pair d n e m) ∙ at) in
            inr (omega (arith, eqb-true d e parts.0, le), in' m ∙ cond-true (is_at (nat_cmp n) m) true (contains nat_cmp ready m) (at-number n m ∙ parts.1))
        by false at = inl (out (e, m) ∙ (cond-false (is_at (pair_cmp (d, n)) (e, m)) false (contains pair_cmp deadlines (e, m)) at ∙ has))

    now : (m : ℕ) (b : Bool) → is_at (nat_cmp n) m ≡ b → cond (is_at (nat_cmp n) m) true (contains nat_cmp ready m) ≡ true → ready_at clock (slice_get ps m) ≡ true
    now m true at e = subst (λ k. ready_at clock (slice_get ps k) ≡ true) (eqb-true n m (sym (at-number n m) ∙ at)) (ready-due before clock d (slice_get ps n) (so_far.held d n was) le)
    now m false at e = so_far.woken m (sym (cond-false (is_at (nat_cmp n) m) true (contains nat_cmp ready m) at) ∙ e)

woken-all : (before clock : ℕ) (ps : List Process) (ready : BTreeSet ℕ) (deadlines : BTreeSet (ℕ × ℕ)) → before ≤ clock → ((p : ℕ × ℕ) → contains pair_cmp deadlines p ≡ true → clock < p.0) → Woken before clock ps ready deadlines
    → Sets None clock ps ready deadlines
woken-all before clock ps ready deadlines le later so_far = record {
  ready' = λ n. both_ways (contains nat_cmp ready n) (ready_at clock (slice_get ps n)) (so_far.woken n) (λ is. there n is (ready_at before (slice_get ps n)) refl);
  deadlines' = λ d n. both_ways (contains pair_cmp deadlines (d, n)) (waits_for clock d (slice_get ps n)) (λ has. waits-at before clock d (slice_get ps n) (so_far.held d n has) (later (d, n) has))
      (λ waits. to-come d n waits (so_far.left d n (waits-at clock before d (slice_get ps n) waits (omega (arith, le, waits-later clock d (slice_get ps n) waits)))));
}
  where
    there : (n : ℕ) → ready_at clock (slice_get ps n) ≡ true → (b : Bool) → ready_at before (slice_get ps n) ≡ b → contains nat_cmp ready n ≡ true
    there n is true was = so_far.kept n was
    there n is false was = became-ready before clock (slice_get ps n) is was (λ d waits come. by d come (so_far.left d n waits))
      where
        by : (d : ℕ) → d ≤ clock → (contains pair_cmp deadlines (d, n) ≡ true) ⊎ ((d ≤ clock) × (contains nat_cmp ready n ≡ true)) → contains nat_cmp ready n ≡ true
        by d come (inl has) = let lt = later (d, n) has in absurd (omega (arith, lt))
        by d come (inr woken) = woken.1

    to-come : (d n : ℕ) → waits_for clock d (slice_get ps n) ≡ true → (contains pair_cmp deadlines (d, n) ≡ true) ⊎ ((d ≤ clock) × (contains nat_cmp ready n ≡ true)) → contains pair_cmp deadlines (d, n) ≡ true
    to-come d n waits (inl has) = has
    to-come d n waits (inr come) = let lt = waits-later clock d (slice_get ps n) waits in absurd (omega (arith, lt, come.0))

-- ---- the node while processes are woken

pub record WakesSoFar (start now : Node) : Type 0 where
  pub is : now ≡ with_sets start now.ready now.deadlines
  pub so_far : (before : ℕ) → before ≤ start.clock → Sets None before (processes_of start.heap start.slots.items) start.ready start.deadlines
      → Woken before start.clock (processes_of start.heap start.slots.items) now.ready now.deadlines

pub wakes-none : (node : Node) → WakesSoFar node node
wakes-none node = record {
  is = refl;
  so_far = λ before le sets. woken-none before node.clock (processes_of node.heap node.slots.items) node.ready node.deadlines le sets;
}

pub wakes-more : (start now : Node) (p : ℕ × ℕ) (ready : BTreeSet ℕ) (deadlines : BTreeSet (ℕ × ℕ)) → WakesSoFar start now → p.0 ≤ now.clock → contains pair_cmp now.deadlines p ≡ true → HasPair p.0 p.1 false now.deadlines deadlines
    → Has p.1 true now.ready ready → WakesSoFar start (with_sets now ready deadlines)
wakes-more start now p ready deadlines wakes le was out in' = record {
  is = ap (λ n. with_sets n ready deadlines) wakes.is;
  so_far = λ before earlier sets. woken-more before start.clock (processes_of start.heap start.slots.items) now.ready ready now.deadlines deadlines p.0 p.1 (omega (arith, le, ap (λ (n : Node). n.clock) wakes.is)) was out in'
      (wakes.so_far before earlier sets);
}

pub wakes-all : (start now : Node) → ((p : ℕ × ℕ) → contains pair_cmp now.deadlines p ≡ true → now.clock < p.0) → WakesSoFar start now → Wakes start now
wakes-all start now later wakes = record {
  is = wakes.is;
  sets = λ before le sets. subst (SetsOf None) (sym wakes.is)
      (woken-all before start.clock (processes_of start.heap start.slots.items) now.ready now.deadlines le (λ p has. omega (arith, later p has, ap (λ (n : Node). n.clock) wakes.is)) (wakes.so_far before le sets));
}

-- ---- the first key of the deadlines

pub record FirstKey (deadlines : BTreeSet (ℕ × ℕ)) (p : ℕ × ℕ) : Type 0 where
  pub at : slice_get deadlines.keys 0 ≡ Some p
  pub member : contains pair_cmp deadlines p ≡ true
  pub lower : IsLowerBound pair_cmp deadlines p

pub first-key : (deadlines : BTreeSet (ℕ × ℕ)) (o : Option (Bor (ℕ × ℕ))) (p : ℕ × ℕ) → Some p ≡ option_copied o → IfSome o (λ k. slice_get deadlines.keys 0 ≡ Some k.now) → IfSome o (λ k. IsTrue (contains pair_cmp deadlines k.now))
    → IfSome o (λ k. IsLowerBound pair_cmp deadlines k.now) → FirstKey deadlines p
first-key deadlines None p is at member lower = absurd cc
first-key deadlines (Some k) p is at member lower = subst (FirstKey deadlines) same (record { at = at; member = member; lower = lower })
  where
    same : k.now ≡ p
    same = cc

-- it is the one that is taken out
pub first-out : (old new : BTreeSet (ℕ × ℕ)) (o : Option (ℕ × ℕ)) (p : ℕ × ℕ) → FirstKey old p → (IsSome o ↔ (0 < length old.keys)) → IfSome o (λ k. old.keys ≡ k ∷ new.keys) → IfSome o (λ k. Updates pair_cmp old new k false)
    → HasPair p.0 p.1 false old new
first-out old new None p first variant removal updates = absurd (differ (sym (variant.1 (slice_get_within old.keys 0 p first.at))))
first-out old new (Some k) p first variant removal updates = subst (λ (k : ℕ × ℕ). HasPair k.0 k.1 false old new) same updates.0
  where
    here : slice_get old.keys 0 ≡ Some k
    here = ap (λ ks. slice_get ks 0) removal

    same : k ≡ p
    same = let both : ◌≡◌ {A = Option (ℕ × ℕ)} (Some k) (Some p) = sym here ∙ first.at in cc

-- where the first is above the clock, all are
pub all-later : (clock : ℕ) (deadlines : BTreeSet (ℕ × ℕ)) (p : ℕ × ℕ) → FirstKey deadlines p → clock < p.0 → (q : ℕ × ℕ) → contains pair_cmp deadlines q ≡ true → clock < q.0
all-later clock deadlines p first lt q has = omega (arith, lt, pair-least p q (first.lower q has))

pub none-later : (clock : ℕ) (deadlines : BTreeSet (ℕ × ℕ)) (o : Option (Bor (ℕ × ℕ))) → option_copied o ≡ None → (IsSome o ↔ (0 < length deadlines.keys)) → (q : ℕ × ℕ) → contains pair_cmp deadlines q ≡ true → clock < q.0
none-later clock deadlines (Some k) is variant q has = absurd cc
none-later clock deadlines None is variant q has = absurd (differ (sym has ∙ ap (list_any (is_at (pair_cmp q))) (no-keys {A = Bor (ℕ × ℕ)} None deadlines.keys refl variant)))

-- ---- the clock is set

abbrev with_clock : Node → ℕ → Node
with_clock node clock =
    record {
      alloc = node.alloc;
      heap = node.heap;
      clock = clock;
      next_ref = node.next_ref;
      slots = node.slots;
      queues = node.queues;
      ready = node.ready;
      deadlines = node.deadlines;
      live = node.live;
      events = node.events;
    }

pub clock-node : (old new : Node) (clock : ℕ) → IsNode old → old.clock ≤ clock → Wakes (with_clock old clock) new → IsNode new
clock-node old new clock is le wakes = subst IsNode (sym wakes.is) (record {
  slots' = is.slots';
  queues' = is.queues';
  events' = is.events';
  sets = subst (SetsOf None) wakes.is (wakes.sets old.clock le is.sets);
  live' = is.live';
})

pub clock-does : (old mid new : Node) (clock : ℕ) → Wakes (with_clock old clock) mid → Does mid new (shows (event.Clock clock ∷ []) (world_of mid)) → Does old new (clocks clock (world_of old))
clock-does old mid new clock wakes does =
    let shown : Does (with_sets (with_clock old clock) mid.ready mid.deadlines) new (shows (event.Clock clock ∷ []) (world_of (with_clock old clock))) =
    subst (λ (m : Node). Does m new (shows (event.Clock clock ∷ []) (world_of m))) wakes.is does in
    record { is_node = shown.is_node; world = shown.world; events = shown.events; keeps = shown.keeps }
