-- A row of a slot map is found by its label, since labels rise.
use Rattle.std.proofs.Common.{◌≡◌, ℕ, zero, suc, ◌<◌, ◌≤◌, Bool, true, false, nat_eq, ◌&&◌, List, [], ◌∷◌, length, map, get_or, Option, None, Ok, Err, refl, sym, ap, ◌∙◌, arith}
use Rattle.std.specs.Prelude.{nat_lt, if◌then◌else◌, option_map}
use Rattle.std.specs.List.Sorted.{IsBinarySearchResult, IsNonDecreasingBy}
use Rattle.std.specs.Ordering.{nat_cmp, ordering_index}
use Rattle.std.proofs.lemmas.Bool.{true≢false}
use Rattle.std.proofs.lemmas.Bool.Decides.{nat_tests}
use Rattle.std.proofs.lemmas.Cmp.{ranked}
use Rattle.std.proofs.lemmas.List.{get_or_default}
use Rattle.std.proofs.lemmas.List.Sorted.{IsNonDecreasingBy-from_default}
use Rattle.beam_code.specs.declared.slot_state.SlotState.{SlotState}
use Rattle.beam_code.specs.Good.{listed_at}
use Rattle.beam_code.specs.SlotForm.{rises, rises_from}
use Rattle.beam_code.specs.Slots.{state_of}

abbrev pub Rows : Type 0
Rows = List (ℕ × Option SlotState)

abbrev pub labels : Rows → List ℕ
labels rows = map (λ (e : ℕ × Option SlotState). e.0) rows

abbrev pub label_at : Rows → ℕ → ℕ
label_at rows i = let row = get_or rows i (0, None) in row.0

first-of : (a b : Bool) → (a && b) ≡ true → a ≡ true
first-of true b h = refl
first-of false b h = h

second-of : (a b : Bool) → (a && b) ≡ true → b ≡ true
second-of true b h = h
second-of false b h = absurd (true≢false (sym h))

-- each later label is larger than what a row of rising labels begins above
above : (n : ℕ) (rows : Rows) (j : ℕ) → rises_from n (labels rows) ≡ true → j < length rows → n < label_at rows j
above n [] j h l = absurd (omega arith)
above n (row ∷ rows) zero h l = less (first-of (nat_lt n row.0) (rises_from row.0 (labels rows)) h)
  where
    less : nat_lt n row.0 ≡ true → n < row.0
    less e = grind (arith, nat_tests)
above n (row ∷ rows) (suc j) h l = omega (arith, less (first-of (nat_lt n row.0) (rises_from row.0 (labels rows)) h), above row.0 rows j (second-of (nat_lt n row.0) (rises_from row.0 (labels rows)) h) (omega arith))
  where
    less : nat_lt n row.0 ≡ true → n < row.0
    less e = grind (arith, nat_tests)

tail-rises : (n : ℕ) (rows : Rows) → rises_from n (labels rows) ≡ true → rises (labels rows) ≡ true
tail-rises n [] h = refl
tail-rises n (row ∷ rows) h = second-of (nat_lt n row.0) (rises_from row.0 (labels rows)) h

rising : (rows : Rows) → rises (labels rows) ≡ true → (i j : ℕ) → i < j → j < length rows → label_at rows i < label_at rows j
rising [] h i j l m = absurd (omega arith)
rising (row ∷ rows) h i zero l m = absurd (omega arith)
rising (row ∷ rows) h zero (suc j) l m = above row.0 rows j h (omega arith)
rising (row ∷ rows) h (suc i) (suc j) l m = rising rows (tail-rises row.0 rows h) i j (omega arith) (omega arith)

-- a row that is the first with its label is the one that is listed
listed-there : (rows : Rows) (label i : ℕ) → i < length rows → label_at rows i ≡ label → ((j : ℕ) → j < i → label_at rows j ≡ label → ⊥)
    → listed_at rows label ≡ option_map state_of (get_or rows i (0, None)).1
listed-there [] label i l e none = absurd (omega arith)
listed-there (row ∷ rows) label zero l e none = ap (λ b. if b then option_map state_of row.1 else listed_at rows label) (same e)
  where
    same : row.0 ≡ label → nat_eq row.0 label ≡ true
    same e = grind (arith, nat_tests)
listed-there (row ∷ rows) label (suc i) l e none =
    ap (λ b. if b then option_map state_of row.1 else listed_at rows label) (other (none 0 (omega arith)))
    ∙ listed-there rows label i (omega arith) e (λ j m. none (suc j) (omega arith))
  where
    other : (row.0 ≡ label → ⊥) → nat_eq row.0 label ≡ false
    other h = by (nat_eq row.0 label) refl
      where
        by : (b : Bool) → nat_eq row.0 label ≡ b → nat_eq row.0 label ≡ false
        by false e = e
        by true e = absurd (h (grind (arith, nat_tests)))

listed-nowhere : (rows : Rows) (label : ℕ) → ((j : ℕ) → j < length rows → label_at rows j ≡ label → ⊥) → listed_at rows label ≡ None
listed-nowhere [] label none = refl
listed-nowhere (row ∷ rows) label none =
    ap (λ b. if b then option_map state_of row.1 else listed_at rows label) (other (none 0 (omega arith)))
    ∙ listed-nowhere rows label (λ j m. none (suc j) (omega arith))
  where
    other : (row.0 ≡ label → ⊥) → nat_eq row.0 label ≡ false
    other h = by (nat_eq row.0 label) refl
      where
        by : (b : Bool) → nat_eq row.0 label ≡ b → nat_eq row.0 label ≡ false
        by false e = e
        by true e = absurd (h (grind (arith, nat_tests)))

module _ (rows : Rows) (h : rises (labels rows) ≡ true) (label : ℕ) where
  comparisons-rise : IsNonDecreasingBy (λ (row : ℕ × Option SlotState). ordering_index (nat_cmp row.0 label)) rows
  comparisons-rise = IsNonDecreasingBy-from_default (λ (row : ℕ × Option SlotState). ordering_index (nat_cmp row.0 label)) rows (0, None) (λ i j le within.
      let up : label_at rows i ≤ label_at rows j = grind (arith, rising rows h i j, λ (same : i ≡ j). ap (label_at rows) same) in
      grind (arith, nat_tests))

  -- the row that the search finds is the one that is listed
  pub found-there : (i : ℕ) → i < length rows → IsBinarySearchResult (λ (row : ℕ × Option SlotState). nat_cmp row.0 label) rows (Ok i)
      → listed_at rows label ≡ option_map state_of (get_or rows i (0, None)).1
  found-there i l equal = listed-there rows label i l is (λ j m e. absurd (omega (arith, is, rising rows h j i m l)))
    where
      is : label_at rows i ≡ label
      is = ranked _ label _ (sym (equal (0, None)))

  -- where the search finds none, none is listed
  pub found-nowhere : (i : ℕ) → IsBinarySearchResult (λ (row : ℕ × Option SlotState). nat_cmp row.0 label) rows (Err i) → listed_at rows label ≡ None
  found-nowhere i parted = listed-nowhere rows label none
    where
      none : (j : ℕ) → j < length rows → label_at rows j ≡ label → ⊥
      none j l e = by (nat_lt j i) refl
        where
          smaller : j < i → label_at rows j < label
          smaller m = ranked _ label _ (sym ((parted comparisons-rise).0 j (0, None) (omega arith) m))

          greater : i ≤ j → label < label_at rows j
          greater m = ranked _ label _ (sym ((parted comparisons-rise).1 j (0, None) m l))

          by : (b : Bool) → nat_lt j i ≡ b → ⊥
          by true t = omega (arith, smaller (grind (arith, nat_tests)))
          by false f = omega (arith, greater (grind (arith, nat_tests)))

-- the row that was read
pub row-read : (rows seen : Rows) (label place : ℕ) (row : ℕ × Option SlotState) → seen ≡ rows → rises (labels rows) ≡ true → place < length seen
    → IsBinarySearchResult (λ (row : ℕ × Option SlotState). nat_cmp row.0 label) seen (Ok place) → option_map state_of (get_or seen place row).1 ≡ listed_at rows label
row-read rows seen label place row e h l found =
    ap (λ (r : ℕ × Option SlotState). option_map state_of r.1) (get_or_default seen place row (0, None) l)
    ∙ sym (found-there seen (ap (λ rs. rises (labels rs)) e ∙ h) label place l found)
    ∙ ap (λ rs. listed_at rs label) e

pub row-missing : (rows seen : Rows) (label place : ℕ) → seen ≡ rows → rises (labels rows) ≡ true
    → IsBinarySearchResult (λ (row : ℕ × Option SlotState). nat_cmp row.0 label) seen (Err place) → None ≡ listed_at rows label
row-missing rows seen label place e h parted =
    sym (found-nowhere seen (ap (λ rs. rises (labels rs)) e ∙ h) label place parted) ∙ ap (λ rs. listed_at rs label) e
