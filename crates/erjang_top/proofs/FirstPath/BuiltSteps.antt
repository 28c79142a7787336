-- The steps of the search for the first instruction that is not compiled.
use Rattle.std.proofs.Common.{◌≡◌, ℕ, zero, suc, ◌+◌, ◌<◌, Bool, true, false, List, [], ◌∷◌, map, length, take, get_or, Some, refl, ap, ◌∙◌, subst, arith}
use Rattle.std.specs.Prelude.{slice_get, option_map}
use Rattle.std.specs.List.{list_all}
use Rattle.std.proofs.lemmas.Bool.{and_parts, and_from, true≢false}
use Rattle.std.proofs.lemmas.Option.{slice_get_read, slice_get-map}
use Rattle.erjang_top.specs.first_path.Opcode.{Opcode, Unknown, is_known}

-- what stands at a place of a list
pub stands-at : {X Y : Type 0} (f : X → Y) (xs : List X) (i : ℕ) (x : X) → i < length xs → x ≡ get_or xs i x → slice_get (map f xs) i ≡ Some (f x)
stands-at f xs i x within is = slice_get-map f xs i ∙ ap (option_map f) (slice_get_read xs (length xs) i x refl within is)

some-same : {X : Type 0} (x y : X) → Some x ≡ Some y → x ≡ y
some-same x y e = cc

-- one more that passes
suc-pass : {A : Type 0} (p : A → Bool) (xs : List A) (i : ℕ) (x : A) → slice_get xs i ≡ Some x → list_all p (take i xs) ≡ true → p x ≡ true → list_all p (take (suc i) xs) ≡ true
suc-pass p [] i x e all here = refl
suc-pass p (y ∷ ys) zero x e all here = and_from (p y) true (ap p (some-same y x e) ∙ here) refl
suc-pass p (y ∷ ys) (suc i) x e all here =
    let h = and_parts (p y) (list_all p (take i ys)) all in and_from (p y) (list_all p (take (suc i) ys)) h.0 (suc-pass p ys i x e h.1 here)

next : (i : ℕ) → suc i ≡ i + 1
next i = omega arith

pub more-pass : {A : Type 0} (p : A → Bool) (xs : List A) (i : ℕ) (x : A) → slice_get xs i ≡ Some x → list_all p (take i xs) ≡ true → p x ≡ true → list_all p (take (i + 1) xs) ≡ true
more-pass p xs i x e all here = subst (λ n. list_all p (take n xs) ≡ true) (next i) (suc-pass p xs i x e all here)

-- an instruction that is not known
pub not-known : (o : Opcode) → is_known o ≡ false → o ≡ Unknown
not-known Unknown e = refl
not-known _ e = absurd (true≢false e)
