-- Options and lists of them, taken apart.
use Rattle.std.proofs.Common.{◌≡◌, List, [], ◌∷◌, map, Option, Some, None, option_map, option_and_then, unwrap_or, refl, ap, ◌∙◌}
use Rattle.std.specs.Option.{option_zip}
use Rattle.std.proofs.lemmas.Option.{none-some}
use Rattle.ej_term.specs.AsmValue.{every}

pub unsome : {A : Type 0} (a b : A) → Some a ≡ Some b → a ≡ b
unsome a b e = ap (λ o. unwrap_or o a) e

-- two maps in one
pub fused : {A B C : Type 0} (f : A → B) (g : B → C) (h : A → C) → ((x : A) → g (f x) ≡ h x) → (xs : List A) → map g (map f xs) ≡ map h xs
fused f g h same [] = refl
fused f g h same (x ∷ xs) = ap (λ y. y ∷ map g (map f xs)) (same x) ∙ ap (◌∷◌ (h x)) (fused f g h same xs)

pub mapped : {A B : Type 0} (f : A → B) (o : Option A) (b : B) → option_map f o ≡ Some b → (a : A) × (o ≡ Some a) × (f a ≡ b)
mapped f None b e = absurd (none-some b e)
mapped f (Some a) b e = (a, refl, unsome (f a) b e)

pub chained : {A B : Type 0} (f : A → Option B) (o : Option A) (b : B) → option_and_then f o ≡ Some b → (a : A) × (o ≡ Some a) × (f a ≡ Some b)
chained f None b e = absurd (none-some b e)
chained f (Some a) b e = (a, refl, e)

pub zipped : {A B : Type 0} (o : Option A) (p : Option B) (e : A × B) → option_zip o p ≡ Some e → (o ≡ Some e.0) × (p ≡ Some e.1)
zipped None p e is = absurd (none-some e is)
zipped (Some a) None e is = absurd (none-some e is)
zipped (Some a) (Some b) e is = (ap (λ x. Some x.0) (unsome (a, b) e is), ap (λ x. Some x.1) (unsome (a, b) e is))

-- the first of several, and the others
pub first-every : {A : Type 0} (o : Option A) (os : List (Option A)) (xs : List A) → every (o ∷ os) ≡ Some xs → (y : A) × (ys : List A) × (o ≡ Some y) × (every os ≡ Some ys) × (y ∷ ys ≡ xs)
first-every None os xs e = absurd (none-some xs e)
first-every (Some y) os xs e = let m = mapped (◌∷◌ y) (every os) xs e in (y, m.0, refl, m.1, m.2)
