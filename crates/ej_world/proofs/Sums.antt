-- How many signals there are, as queues and processes change.
use Rattle.std.proofs.Common.{◌≡◌, ℕ, zero, suc, ◌+◌, ◌<◌, ◌≤◌, Bool, true, false, nat_eq, ◌&&◌, ◌⊎◌, inl, inr, List, [], ◌∷◌, ◌++◌, length, map, Some, refl, ap, ◌∙◌, arith}
use Rattle.std.specs.Prelude.{slice_get, slice_set, if◌then◌else◌}
use Rattle.std.specs.List.{flat_map}
use Rattle.std.proofs.lemmas.Bool.{eqb-true, eqb-false, and_parts, cond_both, cases_lt}
use Rattle.std.proofs.lemmas.List.{length-append}
use Rattle.std.proofs.lemmas.Option.{same_Some}
use Rattle.ej_world.specs.Auto.{below, pairs, total, links_of_live}
use Rattle.ej_world.specs.World.{Signal, Process, Queue, put, taken}

total-append : (xs ys : List ℕ) → total (xs ++ ys) ≡ total xs + total ys
total-append [] ys = omega arith
total-append (x ∷ xs) ys = omega (arith, total-append xs ys)

-- ---- one place

-- how often that number is among those
abbrev times : ℕ → List ℕ → ℕ
times k [] = 0
times k (n ∷ ns) = (if nat_eq n k then 1 else 0) + times k ns

times-append : (k : ℕ) (ns ms : List ℕ) → times k (ns ++ ms) ≡ times k ns + times k ms
times-append k [] ms = omega arith
times-append k (n ∷ ns) ms = omega (arith, times-append k ns ms)

times-none : (k n : ℕ) → n ≤ k → times k (below n) ≡ 0
times-none k zero le = refl
times-none k (suc n) le =
    times-append k (below n) (n ∷ [])
    ∙ cond_both (nat_eq n k) 1 0 (λ m. times k (below n) + (m + 0) ≡ 0) (λ e. absurd (omega (arith, eqb-true n k e))) (λ e. omega (arith, times-none k n (omega arith)))

times-one : (k n : ℕ) → k < n → times k (below n) ≡ 1
times-one k zero lt = absurd (omega arith)
times-one k (suc n) lt =
    times-append k (below n) (n ∷ [])
    ∙ cond_both (nat_eq n k) 1 0 (λ m. times k (below n) + (m + 0) ≡ 1)
    (λ e. omega (arith, times-none k n (omega (arith, eqb-true n k e))))
    (λ e. omega (arith, times-one k n (omega (arith, eqb-false n k e))))

-- how often that pair is among those
abbrev pub hits : (from to : ℕ) → List (ℕ × ℕ) → ℕ
hits from to [] = 0
hits from to (p ∷ ps) = (if nat_eq p.0 from && nat_eq p.1 to then 1 else 0) + hits from to ps

hits-append : (from to : ℕ) (ps qs : List (ℕ × ℕ)) → hits from to (ps ++ qs) ≡ hits from to ps + hits from to qs
hits-append from to [] qs = omega arith
hits-append from to (p ∷ ps) qs = omega (arith, hits-append from to ps qs)

abbrev row : ℕ → List ℕ → List (ℕ × ℕ)
row n ns = map (λ to. (n, to)) ns

hits-row : (from to n : ℕ) (ns : List ℕ) → hits from to (row n ns) ≡ (if nat_eq n from then times to ns else 0)
hits-row from to n [] = cond_both (nat_eq n from) 0 0 (λ m. 0 ≡ m) (λ e. refl) (λ e. refl)
hits-row from to n (m ∷ ns) = by (nat_eq n from) (hits-row from to n ns)
  where
    by : (b : Bool) → hits from to (row n ns) ≡ (if b then times to ns else 0)
        → (if b && nat_eq m to then 1 else 0) + hits from to (row n ns) ≡ (if b then (if nat_eq m to then 1 else 0) + times to ns else 0)
    by true e = omega (arith, e)
    by false e = omega (arith, e)

hits-no-row : (from to : ℕ) (ms ns : List ℕ) → times from ms ≡ 0 → hits from to (flat_map (λ n. row n ns) ms) ≡ 0
hits-no-row from to [] ns none = refl
hits-no-row from to (n ∷ ms) ns none =
    hits-append from to (row n ns) (flat_map (λ n. row n ns) ms)
    ∙ ap (λ m. m + hits from to (flat_map (λ n. row n ns) ms)) (hits-row from to n ns)
    ∙ by (nat_eq n from) none (hits-no-row from to ms ns)
  where
    by : (b : Bool) → (if b then 1 else 0) + times from ms ≡ 0 → (times from ms ≡ 0 → hits from to (flat_map (λ n. row n ns) ms) ≡ 0)
        → (if b then times to ns else 0) + hits from to (flat_map (λ n. row n ns) ms) ≡ 0
    by true none rest = absurd (omega arith)
    by false none rest = let h : hits from to (flat_map (λ n. row n ns) ms) ≡ 0 = rest (omega arith) in omega arith

hits-one-row : (from to : ℕ) (ms ns : List ℕ) → times from ms ≡ 1 → hits from to (flat_map (λ n. row n ns) ms) ≡ times to ns
hits-one-row from to [] ns one = absurd (omega arith)
hits-one-row from to (n ∷ ms) ns one =
    hits-append from to (row n ns) (flat_map (λ n. row n ns) ms)
    ∙ ap (λ m. m + hits from to (flat_map (λ n. row n ns) ms)) (hits-row from to n ns)
    ∙ by (nat_eq n from) one (hits-one-row from to ms ns) (hits-no-row from to ms ns)
  where
    by : (b : Bool) → (if b then 1 else 0) + times from ms ≡ 1 → (times from ms ≡ 1 → hits from to (flat_map (λ n. row n ns) ms) ≡ times to ns)
        → (times from ms ≡ 0 → hits from to (flat_map (λ n. row n ns) ms) ≡ 0)
        → (if b then times to ns else 0) + hits from to (flat_map (λ n. row n ns) ms) ≡ times to ns
    by true one rest none = let h : hits from to (flat_map (λ n. row n ns) ms) ≡ 0 = none (omega arith) in omega arith
    by false one rest none = let h : hits from to (flat_map (λ n. row n ns) ms) ≡ times to ns = rest (omega arith) in omega arith

-- a pair of numbers below is among the pairs once
pub hits-pairs : (from to n : ℕ) → from < n → to < n → hits from to (pairs n) ≡ 1
hits-pairs from to n one other = hits-one-row from to (below n) (below n) (times-one from n one) ∙ times-one to n other

pub hits-at-most : (from to n : ℕ) → hits from to (pairs n) ≤ 1
hits-at-most from to n = by (cases_lt from n) (cases_lt to n)
  where
    by : ((from < n) ⊎ (n ≤ from)) → ((to < n) ⊎ (n ≤ to)) → hits from to (pairs n) ≤ 1
    by (inl one) (inl other) = omega (arith, hits-pairs from to n one other)
    by (inl one) (inr other) = omega (arith, hits-one-row from to (below n) (below n) (times-one from n one), times-none to n other)
    by (inr one) other = omega (arith, hits-no-row from to (below n) (below n) (times-none from n one))

-- ---- signals of queues

abbrev pub waiting : Queue → List (ℕ × ℕ) → ℕ
waiting queue ps = total (map (λ (p : ℕ × ℕ). length (queue p.0 p.1)) ps)

pub put-waits : (from to : ℕ) (signal : Signal) (queue : Queue) (ps : List (ℕ × ℕ)) → waiting (put from to signal queue) ps ≡ waiting queue ps + hits from to ps
put-waits from to signal queue [] = omega arith
put-waits from to signal queue (p ∷ ps) = by (nat_eq p.0 from && nat_eq p.1 to) (put-waits from to signal queue ps)
  where
    by : (b : Bool) → waiting (put from to signal queue) ps ≡ waiting queue ps + hits from to ps
        → length (if b then queue p.0 p.1 ++ signal ∷ [] else queue p.0 p.1) + waiting (put from to signal queue) ps ≡ (length (queue p.0 p.1) + waiting queue ps) + ((if b then 1 else 0) + hits from to ps)
    by true rest = omega (arith, length-append (queue p.0 p.1) (signal ∷ []))
    by false rest = omega arith

pub taken-waits : (from to : ℕ) (signal : Signal) (rest : List Signal) (queue : Queue) (ps : List (ℕ × ℕ)) → queue from to ≡ signal ∷ rest
    → waiting (taken from to rest queue) ps + hits from to ps ≡ waiting queue ps
taken-waits from to signal rest queue [] first = omega arith
taken-waits from to signal rest queue (p ∷ ps) first = by (nat_eq p.0 from && nat_eq p.1 to) refl (taken-waits from to signal rest queue ps first)
  where
    this : nat_eq p.0 from && nat_eq p.1 to ≡ true → length (queue p.0 p.1) ≡ suc (length rest)
    this e =
        let both = and_parts (nat_eq p.0 from) (nat_eq p.1 to) e in
        ap (λ n. length (queue n p.1)) (eqb-true p.0 from both.0) ∙ ap (λ n. length (queue from n)) (eqb-true p.1 to both.1) ∙ ap (length {A = Signal}) first

    by : (b : Bool) → nat_eq p.0 from && nat_eq p.1 to ≡ b → waiting (taken from to rest queue) ps + hits from to ps ≡ waiting queue ps
        → (length (if b then rest else queue p.0 p.1) + waiting (taken from to rest queue) ps) + ((if b then 1 else 0) + hits from to ps) ≡ length (queue p.0 p.1) + waiting queue ps
    by true e more = omega (arith, this e)
    by false e more = omega arith

-- ---- links of live processes

abbrev pub linked : List Process → ℕ
linked ps = total (map links_of_live ps)

pub linked-set : (ps : List Process) (k : ℕ) (p q : Process) → slice_get ps k ≡ Some p → linked (slice_set ps k q) + links_of_live p ≡ linked ps + links_of_live q
linked-set [] k p q at = absurd cc
linked-set (x ∷ ps) zero p q at = let same : links_of_live x ≡ links_of_live p = ap links_of_live (same_Some x p at) in omega arith
linked-set (x ∷ ps) (suc k) p q at = omega (arith, linked-set ps k p q at)
