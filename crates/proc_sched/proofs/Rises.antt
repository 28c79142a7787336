-- Rising numbers: what a search in them finds.
use Rattle.std.proofs.Common.{◌≡◌, ℕ, zero, suc, ◌+◌, ◌<◌, ◌≤◌, true, false, nat_eq, nat_lt, ◌||◌, List, [], ◌∷◌, length, get_or, refl, sym, ap, subst, ◌∙◌, arith}
use Rattle.std.specs.Prelude.{Result, Ok, Err}
use Rattle.std.specs.Result.{is_ok}
use Rattle.std.specs.List.{insert, remove}
use Rattle.std.specs.List.Sorted.{IsBinarySearchResult}
use Rattle.std.specs.Ordering.{nat_cmp}
use Rattle.std.proofs.lemmas.Bool.{ltb-true, ltb-false, lt-ltb, le-ltb, eq-eqb, ne_eqb, cond_both, cond-true, cond-false, or_right}
use Rattle.std.proofs.lemmas.List.Sorted.{searched}
use Rattle.ej_world.specs.Choices.{holds, with_number, without_number}
use Rattle.ej_world.specs.Lawful.{Within}
use Rattle.proc_sched.specs.Stands.{Rising, RisingFrom}

-- ---- rising

pub rising-least : (least other : ℕ) (ns : List ℕ) → other ≤ least → RisingFrom least ns → RisingFrom other ns
rising-least least other [] le rise = tt
rising-least least other (n ∷ ns) le rise = (omega (arith, rise.0), rise.1)

pub rising-within : (least bound : ℕ) (ns : List ℕ) → Within least bound ns → RisingFrom least ns
rising-within least bound [] within = tt
rising-within least bound (n ∷ ns) within = (within.0, rising-within (n + 1) bound ns within.2)

-- each number is at least the least
pub rising-at : (least : ℕ) (ns : List ℕ) (k : ℕ) → RisingFrom least ns → k < length ns → least ≤ get_or ns k 0
rising-at least [] k rise lt = absurd (omega arith)
rising-at least (n ∷ ns) zero rise lt = rise.0
rising-at least (n ∷ ns) (suc k) rise lt = omega (arith, rise.0, rising-at (n + 1) ns k rise.1 (omega arith))

pub rising-order : (least : ℕ) (ns : List ℕ) → RisingFrom least ns → (i j : ℕ) → i ≤ j → j < length ns → get_or ns i 0 ≤ get_or ns j 0
rising-order least [] rise i j le lt = absurd (omega arith)
rising-order least (n ∷ ns) rise zero zero le lt = omega arith
rising-order least (n ∷ ns) rise zero (suc j) le lt = omega (arith, rising-at (n + 1) ns j rise.1 (omega arith))
rising-order least (n ∷ ns) rise (suc i) zero le lt = absurd (omega arith)
rising-order least (n ∷ ns) rise (suc i) (suc j) le lt = rising-order (n + 1) ns rise.1 i j (omega arith) (omega arith)

-- ---- a number that all are above

pub holds-below : (n least : ℕ) (ns : List ℕ) → n < least → RisingFrom least ns → holds ns n ≡ false
holds-below n least [] lt rise = refl
holds-below n least (m ∷ ms) lt rise =
    let other : nat_eq n m ≡ false = ne_eqb n m (λ e. omega (arith, rise.0)) in
    ap (λ b. b || holds ms n) other ∙ holds-below n (m + 1) ms (omega (arith, rise.0)) rise.1

pub without-below : (n least : ℕ) (ns : List ℕ) → n < least → RisingFrom least ns → without_number n ns ≡ ns
without-below n least [] lt rise = refl
without-below n least (m ∷ ms) lt rise =
    let other : nat_eq n m ≡ false = ne_eqb n m (λ e. omega (arith, rise.0)) in
    cond-false (nat_eq n m) (without_number n ms) (m ∷ without_number n ms) other ∙ ap (λ ns. m ∷ ns) (without-below n (m + 1) ms (omega (arith, rise.0)) rise.1)

-- ---- what is found

-- the place of a number that is there
pub holds-found : (n : ℕ) (ns : List ℕ) (place : ℕ) → place < length ns → get_or ns place 0 ≡ n → holds ns n ≡ true
holds-found n [] place lt is = absurd (omega arith)
holds-found n (m ∷ ms) zero lt is = ap (λ b. b || holds ms n) (eq-eqb n m (sym is))
holds-found n (m ∷ ms) (suc k) lt is =
    or_right (nat_eq n m) (holds ms n) (holds-found n ms k (omega arith) is)

pub with-found : (n : ℕ) (least : ℕ) (ns : List ℕ) (place : ℕ) → RisingFrom least ns → place < length ns → get_or ns place 0 ≡ n → with_number n ns ≡ ns
with-found n least [] place rise lt is = absurd (omega arith)
with-found n least (m ∷ ms) zero rise lt is =
    cond-false (nat_lt n m) _ _ (le-ltb n m (omega (arith, is))) ∙ cond-true (nat_eq n m) (m ∷ ms) (m ∷ with_number n ms) (eq-eqb n m (sym is))
with-found n least (m ∷ ms) (suc k) rise lt is =
    let above = rising-at (m + 1) ms k rise.1 (omega arith) in
    let not_before : nat_lt n m ≡ false = le-ltb n m (omega (arith, above, is)) in
    let other : nat_eq n m ≡ false = ne_eqb n m (λ e. omega (arith, above, is)) in
    cond-false (nat_lt n m) _ _ not_before ∙ (cond-false (nat_eq n m) (m ∷ ms) (m ∷ with_number n ms) other ∙ ap (λ ns. m ∷ ns) (with-found n (m + 1) ms k rise.1 (omega arith) is))

pub without-found : (n : ℕ) (least : ℕ) (ns : List ℕ) (place : ℕ) → RisingFrom least ns → place < length ns → get_or ns place 0 ≡ n → without_number n ns ≡ remove ns place
without-found n least [] place rise lt is = absurd (omega arith)
without-found n least (m ∷ ms) zero rise lt is =
    cond-true (nat_eq n m) (without_number n ms) (m ∷ without_number n ms) (eq-eqb n m (sym is)) ∙ without-below n (m + 1) ms (omega (arith, is)) rise.1
without-found n least (m ∷ ms) (suc k) rise lt is =
    let above = rising-at (m + 1) ms k rise.1 (omega arith) in
    let other : nat_eq n m ≡ false = ne_eqb n m (λ e. omega (arith, above, is)) in
    cond-false (nat_eq n m) (without_number n ms) (m ∷ without_number n ms) other ∙ ap (λ ns. m ∷ ns) (without-found n (m + 1) ms k rise.1 (omega arith) is)

-- ---- what is not found, with the place where it belongs

pub record Gap (n : ℕ) (ns : List ℕ) (place : ℕ) : Type 0 where
  pub within : place ≤ length ns
  pub before : (k : ℕ) → k < place → get_or ns k 0 < n
  pub behind : (k : ℕ) → place ≤ k → k < length ns → n < get_or ns k 0

gap-rest : (n m : ℕ) (ms : List ℕ) (place : ℕ) → Gap n (m ∷ ms) (suc place) → Gap n ms place
gap-rest n m ms place gap = record {
  within = omega (arith, gap.within);
  before = λ k lt. gap.before (suc k) (omega arith);
  behind = λ k le lt. gap.behind (suc k) (omega arith) (omega arith);
}

gap-zero : (n m : ℕ) (ms : List ℕ) → Gap n (m ∷ ms) zero → Gap n ms zero
gap-zero n m ms gap = record {
  within = omega arith;
  before = λ k lt. absurd (omega arith);
  behind = λ k le lt. gap.behind (suc k) (omega arith) (omega arith);
}

pub holds-gap : (n : ℕ) (ns : List ℕ) (place : ℕ) → Gap n ns place → holds ns n ≡ false
holds-gap n [] place gap = refl
holds-gap n (m ∷ ms) zero gap =
    let before = gap.behind zero (omega arith) (omega arith) in
    ap (λ b. b || holds ms n) (ne_eqb n m (λ e. omega (arith, before))) ∙ holds-gap n ms zero (gap-zero n m ms gap)
holds-gap n (m ∷ ms) (suc k) gap =
    let behind = gap.before zero (omega arith) in
    ap (λ b. b || holds ms n) (ne_eqb n m (λ e. omega (arith, behind))) ∙ holds-gap n ms k (gap-rest n m ms k gap)

pub without-gap : (n : ℕ) (ns : List ℕ) (place : ℕ) → Gap n ns place → without_number n ns ≡ ns
without-gap n [] place gap = refl
without-gap n (m ∷ ms) zero gap =
    let before = gap.behind zero (omega arith) (omega arith) in
    cond-false (nat_eq n m) (without_number n ms) (m ∷ without_number n ms) (ne_eqb n m (λ e. omega (arith, before))) ∙ ap (λ ns. m ∷ ns) (without-gap n ms zero (gap-zero n m ms gap))
without-gap n (m ∷ ms) (suc k) gap =
    let behind = gap.before zero (omega arith) in
    cond-false (nat_eq n m) (without_number n ms) (m ∷ without_number n ms) (ne_eqb n m (λ e. omega (arith, behind))) ∙ ap (λ ns. m ∷ ns) (without-gap n ms k (gap-rest n m ms k gap))

pub with-gap : (n : ℕ) (ns : List ℕ) (place : ℕ) → Gap n ns place → with_number n ns ≡ insert ns place n
with-gap n [] zero gap = refl
with-gap n [] (suc k) gap = absurd (omega (arith, gap.within))
with-gap n (m ∷ ms) zero gap = cond-true (nat_lt n m) _ _ (lt-ltb n m (gap.behind zero (omega arith) (omega arith)))
with-gap n (m ∷ ms) (suc k) gap =
    let behind = gap.before zero (omega arith) in
    cond-false (nat_lt n m) _ _ (le-ltb n m (omega (arith, behind))) ∙ (cond-false (nat_eq n m) (m ∷ ms) (m ∷ with_number n ms) (ne_eqb n m (λ e. omega (arith, behind)))
    ∙ ap (λ ns. m ∷ ns) (with-gap n ms k (gap-rest n m ms k gap)))

-- ---- the search

-- what a search answers
abbrev pub Searched : ℕ → List ℕ → Result ℕ ℕ → Type 0
Searched n ns (Ok place) = (place < length ns) × (get_or ns place 0 ≡ n)
Searched n ns (Err place) = Gap n ns place

pub search-result : (n : ℕ) (ns : List ℕ) (r : Result ℕ ℕ) → IsBinarySearchResult (λ y. nat_cmp y n) ns r → Rising ns → Searched n ns r
search-result n ns (Ok place) found rise = searched ns n (Ok place) found (rising-order 0 ns rise)
search-result n ns (Err place) found rise =
    let gap = searched ns n (Err place) found (rising-order 0 ns rise) in
    record { within = gap.0; before = gap.1; behind = gap.2 }

-- the same, of a list that is the one
pub look : (n : ℕ) (ns ms : List ℕ) (r : Result ℕ ℕ) → ms ≡ ns → IsBinarySearchResult (λ y. nat_cmp y n) ms r → Rising ns → Searched n ns r
look n ns ms r e found rise = search-result n ns r (subst (λ ms. IsBinarySearchResult (λ y. nat_cmp y n) ms r) e found) rise

pub look-ok : (n : ℕ) (ns : List ℕ) (r : Result ℕ ℕ) (place : ℕ) → Searched n ns r → r ≡ Ok place → (place < length ns) × (get_or ns place 0 ≡ n)
look-ok n ns r place found e = subst (Searched n ns) e found

pub look-err : (n : ℕ) (ns : List ℕ) (r : Result ℕ ℕ) (place : ℕ) → Searched n ns r → r ≡ Err place → Gap n ns place
look-err n ns r place found e = subst (Searched n ns) e found

pub holds-searched : (n : ℕ) (ns : List ℕ) (r : Result ℕ ℕ) → Searched n ns r → is_ok r ≡ holds ns n
holds-searched n ns (Ok place) found = sym (holds-found n ns place found.0 found.1)
holds-searched n ns (Err place) found = sym (holds-gap n ns place found)

-- ---- what stays rising

pub rising-with : (k least : ℕ) (ns : List ℕ) → least ≤ k → RisingFrom least ns → RisingFrom least (with_number k ns)
rising-with k least [] le rise = (le, tt)
rising-with k least (m ∷ ms) le rise =
    cond_both (nat_lt k m) _ _ (RisingFrom least) (λ e. (le, (omega (arith, ltb-true k m e), rise.1)))
    (λ e. cond_both (nat_eq k m) _ _ (RisingFrom least) (λ f. rise)
    (λ f. (rise.0, rising-with k (m + 1) ms (omega (arith, ltb-false k m e, ne k m f)) rise.1)))
  where
    ne : (a b : ℕ) → nat_eq a b ≡ false → a ≡ b → ⊥
    ne a b f e = by (sym (eq-eqb a b e) ∙ f)
      where
        by : true ≡ false → ⊥
        by e = cc

pub rising-without : (k least : ℕ) (ns : List ℕ) → RisingFrom least ns → RisingFrom least (without_number k ns)
rising-without k least [] rise = tt
rising-without k least (m ∷ ms) rise =
    let rest = rising-without k (m + 1) ms rise.1 in
    cond_both (nat_eq k m) _ _ (RisingFrom least) (λ e. rising-least (m + 1) least (without_number k ms) (omega (arith, rise.0)) rest) (λ e. (rise.0, rest))
