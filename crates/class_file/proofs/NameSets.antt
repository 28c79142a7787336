-- Sets of names.
use Rattle.std.proofs.Common.{◌≡◌, ℕ, Bool, true, false, cond, ◌||◌, List, [], ◌∷◌, ◌++◌, map, refl, ap, ◌∙◌}
use Rattle.std.specs.Borrow.{Bor}
use Rattle.std.specs.List.{list_any}
use Rattle.std.specs.Str.{bytes_eq}
use Rattle.std.proofs.lemmas.List.{map-append}
use Rattle.indexmap.specs.IndexSet.{insert_key}

abbrev pub Held : Type 0
Held = Bor (List ℕ)

abbrev pub eq_held : Held → Held → Bool
eq_held a b = bytes_eq a.now b.now

pub has_name : (ks : List Held) (name : List ℕ) → list_any (λ (k : Held). bytes_eq name k.now) ks ≡ list_any (bytes_eq name) (map (λ (k : Held). k.now) ks)
has_name [] name = refl
has_name (k ∷ ks) name = ap (λ b. bytes_eq name k.now || b) (has_name ks name)

-- a name that none has goes last
pub put : (ks new : List Held) (k : Held) → list_any (bytes_eq k.now) (map (λ (k : Held). k.now) ks) ≡ false → new ≡ insert_key eq_held ks k
    → map (λ (k : Held). k.now) new ≡ map (λ (k : Held). k.now) ks ++ k.now ∷ []
put ks new k h e = ap (map (λ (k : Held). k.now)) e ∙ by (list_any (eq_held k) ks) (has_name ks k.now ∙ h)
  where
    by : (b : Bool) → b ≡ false → map (λ (k : Held). k.now) (cond b ks (ks ++ k ∷ [])) ≡ map (λ (k : Held). k.now) ks ++ k.now ∷ []
    by true e = absurd cc
    by false e = map-append (λ (k : Held). k.now) ks (k ∷ [])
