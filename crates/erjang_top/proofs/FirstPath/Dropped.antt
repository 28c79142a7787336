-- A list from a place on.
use Rattle.std.proofs.Common.{◌≡◌, ℕ, ◌+◌, ◌<◌, suc, Bool, true, false, ◌&&◌, List, ◌∷◌, drop, length, get_or, sym, ap, ◌∙◌, add-one, drop-cons}
use Rattle.std.specs.List.{list_all}

-- an element, and what is behind it
pub dropped : {A : Type 0} (xs : List A) (i : ℕ) (x : A) → i < length xs → x ≡ get_or xs i x → drop i xs ≡ x ∷ drop (i + 1) xs
dropped xs i x within is = drop-cons xs i x within ∙ ap (λ y. y ∷ drop (suc i) xs) (sym is) ∙ ap (λ n. x ∷ drop n xs) (sym (add-one i))

-- a test of each element that is left
module _ {A : Type 0} (p : A → Bool) (xs : List A) (i : ℕ) (x : A) (within : i < length xs) (is : x ≡ get_or xs i x) where
  left : list_all p (drop i xs) ≡ (p x && list_all p (drop (i + 1) xs))
  left = ap (list_all p) (dropped xs i x within is)

  pub all-more : (whole : Bool) → p x ≡ true → list_all p (drop i xs) ≡ whole → list_all p (drop (i + 1) xs) ≡ whole
  all-more whole h all = sym (ap (λ b. b && list_all p (drop (i + 1) xs)) h) ∙ sym left ∙ all

  pub all-stop : (whole : Bool) → p x ≡ false → list_all p (drop i xs) ≡ whole → false ≡ whole
  all-stop whole h all = sym (ap (λ b. b && list_all p (drop (i + 1) xs)) h) ∙ sym left ∙ all

  pub all-here : list_all p (drop i xs) ≡ true → p x ≡ true
  all-here all = by (p x) (list_all p (drop (i + 1) xs)) (sym left ∙ all)
    where
      by : (a b : Bool) → (a && b) ≡ true → a ≡ true
      by true b e = λ _. true
      by false b e = absurd (cc)
