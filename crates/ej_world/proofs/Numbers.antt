-- Rising numbers: of live processes, and as links are added and taken away.
use Rattle.std.proofs.Common.{◌≡◌, ℕ, zero, suc, ◌+◌, ◌<◌, ◌≤◌, Bool, true, false, nat_eq, nat_lt, List, [], ◌∷◌, length, Some, refl, ap, ◌∙◌, arith}
use Rattle.std.specs.Prelude.{slice_get}
use Rattle.std.specs.List.{filter}
use Rattle.std.proofs.lemmas.Bool.{ltb-true, ltb-false, eqb-false, eq-eqb, or_parts, or_from, or_left, or_right, cond_both}
use Rattle.ej_world.specs.Choices.{holds, with_number, without_number}
use Rattle.ej_world.specs.Lawful.{Within}
use Rattle.ej_world.specs.World.{Process, numbers_from}

pub within-from : (least other bound : ℕ) (ns : List ℕ) → other ≤ least → Within least bound ns → Within other bound ns
within-from least other bound [] le within = tt
within-from least other bound (n ∷ ns) le within = (omega (arith, within.0), within.1, within.2)

pub within-grows : (least bound other : ℕ) (ns : List ℕ) → bound ≤ other → Within least bound ns → Within least other ns
within-grows least bound other [] le within = tt
within-grows least bound other (n ∷ ns) le within = (within.0, omega (arith, within.1), within-grows (n + 1) bound other ns le within.2)

-- the numbers behind a first one that is left out
rest-within : (least bound n : ℕ) (ns : List ℕ) → least ≤ n → Within (n + 1) bound ns → Within least bound ns
rest-within least bound n ns le within = within-from (n + 1) least bound ns (omega arith) within

pub within-filter : (test : ℕ → Bool) (least bound : ℕ) (ns : List ℕ) → Within least bound ns → Within least bound (filter test ns)
within-filter test least bound [] within = tt
within-filter test least bound (n ∷ ns) within =
    let rest = within-filter test (n + 1) bound ns within.2 in
    cond_both (test n) _ _ (Within least bound) (λ e. (within.0, within.1, rest)) (λ e. rest-within least bound n (filter test ns) within.0 rest)

pub within-with : (k least bound : ℕ) (ns : List ℕ) → least ≤ k → k < bound → Within least bound ns → Within least bound (with_number k ns)
within-with k least bound [] le lt within = (le, lt, tt)
within-with k least bound (m ∷ ms) le lt within =
    cond_both (nat_lt k m) _ _ (Within least bound) (λ e. (le, lt, (omega (arith, ltb-true k m e), within.1, within.2)))
    (λ e. cond_both (nat_eq k m) _ _ (Within least bound) (λ f. within)
    (λ f. (within.0, within.1, within-with k (m + 1) bound ms (omega (arith, ltb-false k m e, eqb-false k m f)) lt within.2)))

pub within-without : (k least bound : ℕ) (ns : List ℕ) → Within least bound ns → Within least bound (without_number k ns)
within-without k least bound [] within = tt
within-without k least bound (m ∷ ms) within =
    let rest = within-without k (m + 1) bound ms within.2 in
    cond_both (nat_eq k m) _ _ (Within least bound) (λ e. rest-within least bound m (without_number k ms) within.0 rest) (λ e. (within.0, within.1, rest))

-- ---- what the numbers do not hold

abbrev Lacks : ℕ → List ℕ → Type 0
Lacks n ns = holds ns n ≡ false

pub lacks-filter : (test : ℕ → Bool) (ns : List ℕ) (n : ℕ) → holds ns n ≡ false → holds (filter test ns) n ≡ false
lacks-filter test [] n lacks = refl
lacks-filter test (m ∷ ms) n lacks =
    let parts = or_parts (nat_eq n m) (holds ms n) lacks in
    let rest = lacks-filter test ms n parts.1 in
    cond_both (test m) _ _ (Lacks n) (λ e. or_from (nat_eq n m) (holds (filter test ms) n) parts.0 rest) (λ e. rest)

pub lacks-with : (k : ℕ) (ns : List ℕ) (n : ℕ) → nat_eq n k ≡ false → holds ns n ≡ false → holds (with_number k ns) n ≡ false
lacks-with k [] n other lacks = or_from (nat_eq n k) false other refl
lacks-with k (m ∷ ms) n other lacks =
    let parts = or_parts (nat_eq n m) (holds ms n) lacks in
    cond_both (nat_lt k m) _ _ (Lacks n) (λ e. or_from (nat_eq n k) (holds (m ∷ ms) n) other lacks)
    (λ e. cond_both (nat_eq k m) _ _ (Lacks n) (λ f. lacks) (λ f. or_from (nat_eq n m) (holds (with_number k ms) n) parts.0 (lacks-with k ms n other parts.1)))

pub lacks-without : (k : ℕ) (ns : List ℕ) (n : ℕ) → holds ns n ≡ false → holds (without_number k ns) n ≡ false
lacks-without k [] n lacks = refl
lacks-without k (m ∷ ms) n lacks =
    let parts = or_parts (nat_eq n m) (holds ms n) lacks in
    let rest = lacks-without k ms n parts.1 in
    cond_both (nat_eq k m) _ _ (Lacks n) (λ e. rest) (λ e. or_from (nat_eq n m) (holds (without_number k ms) n) parts.0 rest)

-- ---- the numbers of processes that pass

pub within-numbers : (test : Process → Bool) (number bound : ℕ) (ps : List Process) → number + length ps ≤ bound → Within number bound (numbers_from number test ps)
within-numbers test number bound [] le = tt
within-numbers test number bound (p ∷ ps) le =
    let rest = within-numbers test (number + 1) bound ps (omega arith) in
    cond_both (test p) _ _ (Within number bound) (λ e. (omega arith, omega arith, rest)) (λ e. within-from (number + 1) number bound (numbers_from (number + 1) test ps) (omega arith) rest)

abbrev Has : ℕ → List ℕ → Type 0
Has n ns = holds ns n ≡ true

pub holds-numbers : (test : Process → Bool) (number k n : ℕ) (ps : List Process) (p : Process) → slice_get ps k ≡ Some p → test p ≡ true → n ≡ number + k
    → holds (numbers_from number test ps) n ≡ true
holds-numbers test number k n [] p at passes is = absurd cc
holds-numbers test number zero n (q ∷ ps) p at passes is =
    let same : q ≡ p = cc in
    let passed = ap test same ∙ passes in
    cond_both (test q) _ _ (Has n) (λ e. or_left (nat_eq n number) _ (eq-eqb n number (omega arith))) (λ e. absurd cc)
holds-numbers test number (suc k) n (q ∷ ps) p at passes is =
    let rest = holds-numbers test (number + 1) k n ps p at passes (omega arith) in
    cond_both (test q) _ _ (Has n) (λ e. or_right (nat_eq n number) _ rest) (λ e. rest)
