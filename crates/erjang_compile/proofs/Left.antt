-- A list from a place on.
use Rattle.std.proofs.Common.{◌≡◌, ℕ, ◌+◌, ◌<◌, ◌≤◌, suc, List, [], ◌∷◌, drop, length, get_or, map, sym, ap, ◌∙◌, add-one, drop-cons}
use Rattle.std.proofs.lemmas.List.{drop_all}

pub left-list : {A : Type 0} (xs : List A) (i : ℕ) (x : A) → i < length xs → x ≡ get_or xs i x → drop i xs ≡ x ∷ drop (i + 1) xs
left-list xs i x within is = drop-cons xs i x within ∙ ap (λ y. y ∷ drop (suc i) xs) (sym is) ∙ ap (λ n. x ∷ drop n xs) (sym (add-one i))

module _ {A B : Type 0} (f : A → B) where
  -- an element, and what is behind it
  pub left-more : (xs : List A) (i : ℕ) (x : A) → i < length xs → x ≡ get_or xs i x → map f (drop i xs) ≡ f x ∷ map f (drop (i + 1) xs)
  left-more xs i x within is = ap (map f) (left-list xs i x within is)

  pub left-none : (xs : List A) (i : ℕ) → length xs ≤ i → map f (drop i xs) ≡ []
  left-none xs i end = ap (map f) (drop_all i xs end)
