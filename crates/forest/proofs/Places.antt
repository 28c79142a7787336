-- An edit of a list before, at or behind one of its items.
use Rattle.std.proofs.Common.{◌≡◌, ℕ, ◌+◌, ◌-◌, ◌<◌, ◌≤◌, List, [], ◌∷◌, ◌++◌, length, slice_get, set, Some, refl, sym, ap, ap₂, ◌∙◌, zero, suc, arith}
use Rattle.std.specs.List.{insert, remove}
use Rattle.std.proofs.lemmas.Option.{none-some, same_Some}
use Rattle.std.proofs.lemmas.List.{set-append_left, set-append_right}
use Rattle.std.proofs.lemmas.List.Edits.{insert-append_left, insert-append_right, remove-append_left, remove-append_right}
use Rattle.std.proofs.Math.Seq.{set-append_seam}

module _ {X : Type 0} where
  joined : (before left behind right : List X) (x : X) → before ≡ left → behind ≡ right → before ++ x ∷ behind ≡ left ++ x ∷ right
  joined before left behind right x e f = ap₂ (λ (xs ys : List X). xs ++ x ∷ ys) e f

  -- one item
  pub get-before : (whole left right : List X) (x : X) (i : ℕ) → whole ≡ left ++ x ∷ right → i < length left → slice_get left i ≡ slice_get whole i
  get-before whole left right x i w lt = sym (ap (λ (xs : List X). slice_get xs i) w ∙ first left i lt)
    where
      first : (xs : List X) (k : ℕ) → k < length xs → slice_get (xs ++ x ∷ right) k ≡ slice_get xs k
      first [] k lt = absurd (omega (arith, lt))
      first (y ∷ xs) zero lt = refl
      first (y ∷ xs) (suc k) lt = first xs k (omega (arith, lt))

  pub get-here : (whole left right : List X) (x : X) (i : ℕ) → whole ≡ left ++ x ∷ right → i ≡ length left → slice_get whole i ≡ Some x
  get-here whole left right x i w at = ap₂ (λ (xs : List X) n. slice_get xs n) w at ∙ seam left
    where
      seam : (xs : List X) → slice_get (xs ++ x ∷ right) (length xs) ≡ Some x
      seam [] = refl
      seam (y ∷ xs) = seam xs

  pub get-behind : (whole left right : List X) (x : X) (i : ℕ) → whole ≡ left ++ x ∷ right → length left < i → slice_get right (i - (length left + 1)) ≡ slice_get whole i
  get-behind whole left right x i w lt = sym (ap (λ (xs : List X). slice_get xs i) w ∙ past left i (i - (length left + 1)) (omega (arith, lt)))
    where
      past : (xs : List X) (n k : ℕ) → n ≡ length xs + 1 + k → slice_get (xs ++ x ∷ right) n ≡ slice_get right k
      past [] n k e = ap (slice_get (x ∷ right)) {y = suc k} (omega (arith, e))
      past (y ∷ xs) zero k e = absurd (omega (arith, e))
      past (y ∷ xs) (suc n) k e = past xs n k (omega (arith, e))

  -- another item
  pub set-before : (whole left right before behind : List X) (x : X) (i : ℕ) (a : X) → whole ≡ left ++ x ∷ right → i < length left → before ≡ set left i a → behind ≡ right
      → before ++ x ∷ behind ≡ set whole i a
  set-before whole left right before behind x i a w lt b r = joined before (set left i a) behind right x b r ∙ sym (ap (λ (xs : List X). set xs i a) w ∙ set-append_left left (x ∷ right) i a lt)

  pub set-here : (whole left right : List X) (x : X) (i : ℕ) (a : X) → whole ≡ left ++ x ∷ right → i ≡ length left → left ++ a ∷ right ≡ set whole i a
  set-here whole left right x i a w at = sym (ap₂ (λ (xs : List X) n. set xs n a) w at ∙ set-append_seam left x right a)

  pub set-behind : (whole left right before behind : List X) (x : X) (n i : ℕ) (a : X) → whole ≡ left ++ x ∷ right → n ≡ length left → n < i → before ≡ left → behind ≡ set right (i - n - 1) a
      → before ++ x ∷ behind ≡ set whole i a
  set-behind whole left right before behind x n i a w at lt l b =
      joined before left behind (set right (i - n - 1) a) x l b
      ∙ sym (ap (λ (xs : List X). set xs i a) w ∙ set-append_right left (x ∷ right) n i a (sym at) (omega (arith, lt)) ∙ ap (λ k. left ++ set (x ∷ right) k a) {y = suc (i - n - 1)} (omega (arith, lt)))

  -- one more item
  pub insert-before : (whole left right before behind : List X) (x : X) (i : ℕ) (a : X) → whole ≡ left ++ x ∷ right → i ≤ length left → before ≡ insert left i a → behind ≡ right
      → before ++ x ∷ behind ≡ insert whole i a
  insert-before whole left right before behind x i a w le b r = joined before (insert left i a) behind right x b r ∙ sym (ap (λ (xs : List X). insert xs i a) w ∙ insert-append_left left (x ∷ right) i a le)

  pub insert-behind : (whole left right before behind : List X) (x : X) (n i : ℕ) (a : X) → whole ≡ left ++ x ∷ right → n ≡ length left → n < i → before ≡ left → behind ≡ insert right (i - n - 1) a
      → before ++ x ∷ behind ≡ insert whole i a
  insert-behind whole left right before behind x n i a w at lt l b =
      joined before left behind (insert right (i - n - 1) a) x l b
      ∙ sym (ap (λ (xs : List X). insert xs i a) w ∙ insert-append_right left (x ∷ right) n i a (sym at) (omega (arith, lt)) ∙ ap (λ k. left ++ insert (x ∷ right) k a) {y = suc (i - n - 1)} (omega (arith, lt)))

  pub insert-only : (whole left right : List X) (i : ℕ) (a : X) → whole ≡ [] → left ≡ [] → right ≡ [] → i ≤ length whole → left ++ a ∷ right ≡ insert whole i a
  insert-only whole left right i a w l r le =
      ap₂ (λ (xs ys : List X). xs ++ a ∷ ys) l r ∙ sym (ap₂ (λ (xs : List X) n. insert xs n a) w at_start)
    where
      at_start : i ≡ 0
      at_start = omega (arith, le, ap length w)

  -- one item less
  pub remove-before : (whole left right before behind : List X) (x : X) (i : ℕ) → whole ≡ left ++ x ∷ right → i < length left → before ≡ remove left i → behind ≡ right
      → before ++ x ∷ behind ≡ remove whole i
  remove-before whole left right before behind x i w lt b r = joined before (remove left i) behind right x b r ∙ sym (ap (λ (xs : List X). remove xs i) w ∙ remove-append_left left (x ∷ right) i lt)

  pub remove-here : (whole left right : List X) (x : X) (i : ℕ) → whole ≡ left ++ x ∷ right → i ≡ length left → left ++ right ≡ remove whole i
  remove-here whole left right x i w at =
      sym (ap (λ (xs : List X). remove xs i) w ∙ remove-append_right left (x ∷ right) i i (sym at) (omega arith) ∙ ap (λ k. left ++ remove (x ∷ right) k) {y = 0} (omega arith))

  pub remove-behind : (whole left right before behind : List X) (x : X) (n i : ℕ) → whole ≡ left ++ x ∷ right → n ≡ length left → n < i → before ≡ left → behind ≡ remove right (i - n - 1)
      → before ++ x ∷ behind ≡ remove whole i
  remove-behind whole left right before behind x n i w at lt l b =
      joined before left behind (remove right (i - n - 1)) x l b
      ∙ sym (ap (λ (xs : List X). remove xs i) w ∙ remove-append_right left (x ∷ right) n i (sym at) (omega (arith, lt)) ∙ ap (λ k. left ++ remove (x ∷ right) k) {y = suc (i - n - 1)} (omega (arith, lt)))

  -- the last item put back
  pub last-back : (whole before behind right : List X) (x : X) (k : ℕ) → length whole ≡ suc k → slice_get whole k ≡ Some x → before ≡ remove whole k → behind ≡ right → before ++ x ∷ behind ≡ whole ++ right
  last-back whole before behind right x k n g b r = joined before (remove whole k) behind right x b r ∙ back whole k n g
    where
      back : (xs : List X) (j : ℕ) → length xs ≡ suc j → slice_get xs j ≡ Some x → remove xs j ++ x ∷ right ≡ xs ++ right
      back [] j n g = absurd (none-some x g)
      back (y ∷ []) zero n g = ap (λ z. z ∷ right) (sym (same_Some y x g))
      back (y ∷ z ∷ xs) zero n g = absurd (omega (arith, n))
      back (y ∷ xs) (suc j) n g = ap (◌∷◌ y) (back xs j (omega (arith, n)) g)

  pub none-there : (whole : List X) → length whole ≡ 0 → [] ≡ whole
  none-there [] n = refl
  none-there (x ∷ whole) n = absurd (omega (arith, n))
