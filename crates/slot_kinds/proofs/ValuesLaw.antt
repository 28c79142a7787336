-- Values, source by source.
use Rattle.std.proofs.Common.{◌≡◌, ℕ, ◌+◌, ◌<◌, List, [], ◌∷◌, ◌++◌, drop, length, get_or, map, inl, inr, refl, ap, subst, ◌∙◌}
use Rattle.std.specs.Prelude.{◌⊎◌, Bool, true, false, if◌then◌else◌, Option, None, Some}
use Rattle.std.specs.Borrow.{Bor}
use Rattle.std.proofs.lemmas.List.Elements.{filter-append}
use Rattle.beam_code.specs.ConstantsSeen.{behind_first}
use Rattle.beam_code.specs.declared.operand.Src.{Src}
use Rattle.beam_code.specs.Pool.{IsAmong, both, is_value}
use Rattle.slot_kinds.specs.Named.{Gains, values}
use Rattle.slot_kinds.proofs.Different.{among-front, among-back, among-either}
use Rattle.slot_kinds.proofs.Left.{left-list, left-more}

-- some gains, and then others
pub gains-then : {K : Type 0} (old mid new some more : List K) → Gains old mid some → Gains mid new more → Gains old new (some ++ more)
gains-then {K} old mid new some more a b e = (λ m. to ((b e).0 m), from)
  where
    sorted : IsAmong e old ⊎ IsAmong e some → IsAmong e old ⊎ IsAmong e (some ++ more)
    sorted (inl m) = inl m
    sorted (inr m) = inr (among-front e some more m)

    to : IsAmong e mid ⊎ IsAmong e more → IsAmong e old ⊎ IsAmong e (some ++ more)
    to (inl m) = sorted ((a e).0 m)
    to (inr m) = inr (among-back e some more m)

    back : IsAmong e some ⊎ IsAmong e more → IsAmong e new
    back (inl m) = (b e).1 (inl ((a e).1 (inr m)))
    back (inr m) = (b e).1 (inr m)

    from : IsAmong e old ⊎ IsAmong e (some ++ more) → IsAmong e new
    from (inl m) = (b e).1 (inl ((a e).1 (inl m)))
    from (inr m) = back (among-either e some more m)

-- nothing is gained
pub gains-nothing : {K : Type 0} (has none : List K) → none ≡ [] → Gains has has none
gains-nothing {K} has none is e = (λ m. inl m, by)
  where
    by : IsAmong e has ⊎ IsAmong e none → IsAmong e has
    by (inl m) = m
    by (inr m) = absurd (subst (IsAmong e) is m)

-- a source alone
pub value-alone : (s : Src) → is_value s ≡ true → values (s ∷ []) ≡ s ∷ []
value-alone s h = ap (λ (b : Bool). if b then (s ∷ []) else []) h

pub no-value : (s : Src) → is_value s ≡ false → values (s ∷ []) ≡ []
no-value s h = ap (λ (b : Bool). if b then (s ∷ []) else []) h

-- a first source, and then others
pub values-behind : (first : Option (Bor Src)) (rest : List Src) → values (behind_first first rest) ≡ values (behind_first first []) ++ values rest
values-behind None rest = refl
values-behind (Some first) rest = filter-append is_value (first.now ∷ []) rest

-- a source, and those that are left
pub values-left : (xs : List Src) (i : ℕ) (x : Src) → i < length xs → x ≡ get_or xs i x → values (drop i xs) ≡ values (x ∷ []) ++ values (drop (i + 1) xs)
values-left xs i x within is = ap values (left-list xs i x within is) ∙ filter-append is_value (x ∷ []) (drop (i + 1) xs)

pub values-left-of : {A : Type 0} (f : A → Src) (xs : List A) (i : ℕ) (x : A) → i < length xs → x ≡ get_or xs i x
    → values (map f (drop i xs)) ≡ values (f x ∷ []) ++ values (map f (drop (i + 1) xs))
values-left-of f xs i x within is = ap values (left-more f xs i x within is) ∙ filter-append is_value (f x ∷ []) (map f (drop (i + 1) xs))

pub values-left-pair : (xs : List (Src × Src)) (i : ℕ) (x : Src × Src) → i < length xs → x ≡ get_or xs i x
    → values (both (drop i xs)) ≡ (values (x.0 ∷ []) ++ values (x.1 ∷ [])) ++ values (both (drop (i + 1) xs))
values-left-pair xs i x within is =
    ap (λ ps. values (both ps)) (left-list xs i x within is) ∙ filter-append is_value (x.0 ∷ x.1 ∷ []) (both (drop (i + 1) xs))
    ∙ ap (λ vs. vs ++ values (both (drop (i + 1) xs))) (filter-append is_value (x.0 ∷ []) (x.1 ∷ []))
