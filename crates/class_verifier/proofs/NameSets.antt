-- Sets of names.
use Rattle.std.proofs.Common.{◌≡◌, ℕ, Bool, true, false, cond, ◌||◌, List, [], ◌∷◌, ◌++◌, map, refl, sym, ap, ◌∙◌}
use Rattle.std.specs.Borrow.{Bor}
use Rattle.std.specs.List.{list_any}
use Rattle.std.specs.Str.{bytes_eq}
use Rattle.std.proofs.lemmas.List.{map-append}
use Rattle.std.proofs.lemmas.List.Folds.{list_any-append}
use Rattle.std.proofs.lemmas.Slice.Eq.{bytes_eq-Decides}
use Rattle.indexmap.specs.IndexSet.{insert_key}

abbrev pub Held : Type 0
Held = Bor (List ℕ)

abbrev pub eq_held : Held → Held → Bool
eq_held a b = bytes_eq a.now b.now

abbrev pub texts : List Held → List (List ℕ)
texts ks = map (λ (k : Held). k.now) ks

pub has_name : (ks : List Held) (name : List ℕ) → list_any (λ (k : Held). bytes_eq name k.now) ks ≡ list_any (bytes_eq name) (texts ks)
has_name [] name = refl
has_name (k ∷ ks) name = ap (λ b. bytes_eq name k.now || b) (has_name ks name)

same_bool : (a b : Bool) → (a ≡ true → b ≡ true) → (b ≡ true → a ≡ true) → a ≡ b
same_bool true b f g = sym (f refl)
same_bool false true f g = g refl
same_bool false false f g = refl

pub turned : (a b : List ℕ) → bytes_eq a b ≡ bytes_eq b a
turned a b = same_bool (bytes_eq a b) (bytes_eq b a)
    (λ h. (bytes_eq-Decides b a).1 (sym ((bytes_eq-Decides a b).0 h)))
    (λ h. (bytes_eq-Decides a b).1 (sym ((bytes_eq-Decides b a).0 h)))

or_false : (a : Bool) → (a || false) ≡ a
or_false true = refl
or_false false = refl

or_held : (a b : Bool) → (b ≡ true → a ≡ true) → a ≡ (a || b)
or_held true b f = refl
or_held false true f = f refl
or_held false false f = refl

-- what is found among names is found among more, or is the one that is put
pub found : (ks new : List Held) (k : Held) (other : List ℕ) → new ≡ insert_key eq_held ks k
    → list_any (bytes_eq other) (texts new) ≡ (list_any (bytes_eq other) (texts ks) || bytes_eq other k.now)
found ks new k other e = ap (λ ks. list_any (bytes_eq other) (texts ks)) e ∙ by (list_any (eq_held k) ks) refl
  where
    among : list_any (eq_held k) ks ≡ true → bytes_eq other k.now ≡ true → list_any (bytes_eq other) (texts ks) ≡ true
    among h same = ap (λ name. list_any (bytes_eq name) (texts ks)) ((bytes_eq-Decides other k.now).0 same) ∙ (sym (has_name ks k.now) ∙ h)

    by : (b : Bool) → list_any (eq_held k) ks ≡ b → list_any (bytes_eq other) (texts (cond b ks (ks ++ k ∷ []))) ≡ (list_any (bytes_eq other) (texts ks) || bytes_eq other k.now)
    by true h = or_held (list_any (bytes_eq other) (texts ks)) (bytes_eq other k.now) (among h)
    by false h =
        ap (list_any (bytes_eq other)) (map-append (λ (k : Held). k.now) ks (k ∷ []))
        ∙ list_any-append (bytes_eq other) (texts ks) (k.now ∷ [])
        ∙ ap (λ b. list_any (bytes_eq other) (texts ks) || b) (or_false (bytes_eq other k.now))
