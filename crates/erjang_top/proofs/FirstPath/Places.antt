-- Lists by places: what stands at one, and after a write.
use Rattle.std.proofs.Common.{◌≡◌, ℕ, zero, suc, ◌+◌, ◌<◌, List, [], ◌∷◌, drop, length, Some, refl, ap, add-one, arith}
use Rattle.std.specs.Prelude.{slice_get, slice_set}

-- the first of what is left
pub first-of-drop : {X : Type 0} (xs : List X) (n : ℕ) (y : X) (ys : List X) → drop n xs ≡ y ∷ ys → slice_get xs n ≡ Some y
first-of-drop [] zero y ys e = absurd cc
first-of-drop [] (suc n) y ys e = absurd cc
first-of-drop (x ∷ xs) zero y ys e = cc
first-of-drop (x ∷ xs) (suc n) y ys e = first-of-drop xs n y ys e

-- and what is left behind it
pub rest-of-drop : {X : Type 0} (xs : List X) (n : ℕ) (y : X) (ys : List X) → drop n xs ≡ y ∷ ys → drop (n + 1) xs ≡ ys
rest-of-drop xs n y ys e = rw add-one (at xs n e)
  where
    at : (xs : List _) (n : ℕ) → drop n xs ≡ y ∷ ys → drop (suc n) xs ≡ ys
    at [] zero e' = absurd cc
    at [] (suc n) e' = absurd cc
    at (x ∷ xs) zero e' = cc
    at (x ∷ xs) (suc n) e' = at xs n e'

pub get-written : {X : Type 0} (xs : List X) (n : ℕ) (y : X) → n < length xs → slice_get (slice_set xs n y) n ≡ Some y
get-written [] n y lt = absurd (omega arith)
get-written (x ∷ xs) zero y lt = refl
get-written (x ∷ xs) (suc n) y lt = get-written xs n y (omega arith)

pub get-other : {X : Type 0} (xs : List X) (n k : ℕ) (y : X) → (k ≡ n → ⊥) → slice_get (slice_set xs n y) k ≡ slice_get xs k
get-other [] n k y other = refl
get-other (x ∷ xs) zero zero y other = absurd (other refl)
get-other (x ∷ xs) zero (suc k) y other = refl
get-other (x ∷ xs) (suc n) zero y other = refl
get-other (x ∷ xs) (suc n) (suc k) y other = get-other xs n k y (λ e. other (ap suc e))
