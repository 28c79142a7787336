-- A set of keys, seen as a list of what the keys stand for.
use Rattle.std.proofs.Common.{◌≡◌, ℕ, ◌+◌, ◌<◌, Bool, true, false, ◌||◌, List, [], ◌∷◌, ◌++◌, map, drop, length, get_or, refl, sym, ap, ◌∙◌, append_assoc}
use Rattle.std.specs.Prelude.{if◌then◌else◌}
use Rattle.std.specs.List.{list_any}
use Rattle.std.proofs.lemmas.List.{map-append}
use Rattle.indexmap.specs.IndexSet.{insert_key}
use Rattle.erjang_top.proofs.FirstPath.Dropped.{dropped}

module _ {K A : Type 0} (eq : K → K → Bool) (same : A → A → Bool) (seen : K → A) (agree : (x y : K) → eq x y ≡ same (seen x) (seen y)) where
  pub seen-among : (k : K) (ks : List K) → list_any (eq k) ks ≡ list_any (same (seen k)) (map seen ks)
  seen-among k [] = refl
  seen-among k (x ∷ xs) = let first = agree k x in let rest = seen-among k xs in λ i. first i || rest i

  pub seen-insert : (k : K) (ks : List K) → map seen (insert_key eq ks k) ≡ (if list_any (same (seen k)) (map seen ks) then map seen ks else map seen ks ++ seen k ∷ [])
  seen-insert k ks = by (list_any (eq k) ks) ∙ ap (λ b. if b then map seen ks else map seen ks ++ seen k ∷ []) (seen-among k ks)
    where
      by : (b : Bool) → map seen (if b then ks else ks ++ k ∷ []) ≡ (if b then map seen ks else map seen ks ++ seen k ∷ [])
      by true = refl
      by false = map-append seen ks (k ∷ [])

  -- one more, which was not there
  pub seen-new : (k : K) (ks new : List K) → new ≡ insert_key eq ks k → list_any (eq k) ks ≡ false → map seen new ≡ map seen ks ++ seen k ∷ []
  seen-new k ks new e absent = ap (map seen) e ∙ ap (λ b. map seen (if b then ks else ks ++ k ∷ [])) absent ∙ map-append seen ks (k ∷ [])

-- what was done and what is left are the whole, after one more step
pub one_done : {X A : Type 0} (f : X → A) (done new whole : List A) (xs : List X) (i : ℕ) (x : X) → i < length xs → x ≡ get_or xs i x
    → done ++ map f (drop i xs) ≡ whole → new ≡ done ++ f x ∷ [] → new ++ map f (drop (i + 1) xs) ≡ whole
one_done f done new whole xs i x within is all e =
    ap (λ n. n ++ map f (drop (i + 1) xs)) e
    ∙ append_assoc done (f x ∷ []) (map f (drop (i + 1) xs))
    ∙ sym (ap (λ ys. done ++ map f ys) (dropped xs i x within is))
    ∙ all

-- the step itself
pub one_left : {X A : Type 0} (f : X → A) (done whole : List A) (xs : List X) (i : ℕ) (x : X) → i < length xs → x ≡ get_or xs i x
    → done ++ map f (drop i xs) ≡ whole → done ++ f x ∷ map f (drop (i + 1) xs) ≡ whole
one_left f done whole xs i x within is all = sym (ap (λ ys. done ++ map f ys) (dropped xs i x within is)) ∙ all
