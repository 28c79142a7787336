-- Bytes that are appended one after the other.
use Rattle.std.proofs.Common.{◌≡◌, ℕ, ◌+◌, ◌<◌, List, [], ◌∷◌, ◌++◌, length, get_or, drop, map, Result, Ok, Err, subst, refl, sym, ap, ◌∙◌, append_assoc}
use Rattle.std.specs.Result.{OnOk}
use Rattle.std.specs.List.{flat_map, AllByRecursion}
use Rattle.std.proofs.lemmas.List.{drop_more}

pub adds : (old mid new a b : List ℕ) → mid ≡ old ++ a → new ≡ mid ++ b → new ≡ old ++ (a ++ b)
adds old mid new a b p q = q ∙ ap (λ (t : List ℕ). t ++ b) p ∙ append_assoc old a b

-- what was appended is equal to something else
pub appended-as : {T E : Type 0} (r : Result T E) (old new x y : List ℕ) → x ≡ y → OnOk r (new ≡ old ++ x) → OnOk r (new ≡ old ++ y)
appended-as r old new x y e h = subst (λ (t : List ℕ). OnOk r (new ≡ old ++ t)) e h

pub flat_map-append : {X Y : Type 0} (f : X → List Y) (xs ys : List X) → flat_map f (xs ++ ys) ≡ flat_map f xs ++ flat_map f ys
flat_map-append f [] ys = refl
flat_map-append f (x ∷ xs) ys = ap (λ (t : List _). f x ++ t) (flat_map-append f xs ys) ∙ sym (append_assoc (f x) (flat_map f xs) (flat_map f ys))

-- an item and the rest behind it
pub item-rest : {X : Type 0} (xs : List X) (i : ℕ) (x : X) → i < length xs → x ≡ get_or xs i x → drop i xs ≡ x ∷ drop (i + 1) xs
item-rest xs i x lt is = drop_more xs i x lt ∙ ap (λ (y : _). y ∷ drop (i + 1) xs) (sym is)

-- one more piece is written of what is left
pub piece : (start out new a b : List ℕ) → out ++ (a ++ b) ≡ start → new ≡ out ++ a → new ++ b ≡ start
piece start out new a b e n = ap (λ (t : List ℕ). t ++ b) n ∙ append_assoc out a b ∙ e

-- one more item of a list is written
pub step_written : {X Y : Type 0} (g : X → Y) (f : Y → List ℕ) (xs : List X) (i : ℕ) (x : X) (start out new : List ℕ) → i < length xs → x ≡ get_or xs i x
    → out ++ flat_map f (map g (drop i xs)) ≡ start → new ≡ out ++ f (g x) → new ++ flat_map f (map g (drop (i + 1) xs)) ≡ start
step_written g f xs i x start out new lt is e n =
    piece start out new (f (g x)) (flat_map f (map g (drop (i + 1) xs))) (ap (λ (ys : List _). out ++ flat_map f (map g ys)) (sym (item-rest xs i x lt is)) ∙ e) n

-- what holds of all that is left holds of the next, and of the rest
pub next_all : {X : Type 0} (P : X → Type 0) (xs : List X) (i : ℕ) (x : X) → i < length xs → x ≡ get_or xs i x → AllByRecursion P (drop i xs) → P x × AllByRecursion P (drop (i + 1) xs)
next_all P xs i x lt is all = subst (AllByRecursion P) (item-rest xs i x lt is) all

pub record IsStep {X Y : Type 0} (P : Y → Type 0) (f : X → Y) (xs : List X) (i : ℕ) (x : X) : Type 0 where
  pub here : P (f x)
  pub rest : AllByRecursion P (map f (drop (i + 1) xs))

-- the same of what they are mapped to
pub step_all : {X Y : Type 0} (P : Y → Type 0) (f : X → Y) (xs : List X) (i : ℕ) (x : X) → i < length xs → x ≡ get_or xs i x → AllByRecursion P (map f (drop i xs)) → IsStep P f xs i x
step_all P f xs i x lt is all =
    let parts = subst (λ (ys : List _). AllByRecursion P (map f ys)) (item-rest xs i x lt is) all in
    record { here = parts.0; rest = parts.1 }

pub on_ok : {T E P Q : Type 0} (r : Result T E) → (P → Q) → OnOk r P → OnOk r Q
on_ok (Ok x) f h = f h
on_ok (Err e) f h = tt
