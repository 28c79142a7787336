-- The keys of a set are the different elements of a list.
use Rattle.std.proofs.Common.{◌≡◌, ℕ, Bool, true, false, nat_eq, arith, ◌||◌, List, [], ◌∷◌, ◌++◌, length, inl, inr, refl, sym, ap, subst, ◌∙◌}
use Rattle.std.specs.Prelude.{◌⊎◌, ◌↔◌, ◌&&◌, if◌then◌else◌}
use Rattle.std.specs.Cmp.{nat_eq_equiv}
use Rattle.std.specs.List.{list_any, AllByRecursion, IsDistinct}
use Rattle.std.proofs.lemmas.Bool.{true≢false}
use Rattle.std.proofs.lemmas.Bool.Decides.{nat_tests}
use Rattle.std.proofs.lemmas.Map.Keys.{IsDistinct-head, IsDistinct-tail}
use Rattle.std.specs.Cmp.Lexicographic.{pointwise, same_text, nat_list_eq_equiv}
use Rattle.beam_code.specs.Pool.{Ext, IsAmong, AllDiffer, HasDifferent}
use Rattle.slot_kinds.specs.Named.{Gains}

module _ {K : Type 0} (eq : K → K → Bool) (means : (a b : K) → eq a b ≡ true → a ≡ b) (itself : (a : K) → eq a a ≡ true) where
  -- what is equal is among them
  pub member-among : (x : K) (xs : List K) → list_any (eq x) xs ≡ true → IsAmong x xs
  member-among x [] h = absurd (true≢false (sym h))
  member-among x (y ∷ ys) h = by (eq x y) refl h (member-among x ys)
    where
      by : (b : Bool) → eq x y ≡ b → (b || list_any (eq x) ys) ≡ true → (list_any (eq x) ys ≡ true → IsAmong x ys) → (x ≡ y) ⊎ IsAmong x ys
      by true e h later = inl (means x y e)
      by false e h later = inr (later h)

  pub among-member : (x : K) (xs : List K) → IsAmong x xs → list_any (eq x) xs ≡ true
  among-member x [] m = absurd m
  among-member x (y ∷ ys) (inl e) = ap (λ b. b || list_any (eq x) ys) (ap (eq x) (sym e) ∙ itself x)
  among-member x (y ∷ ys) (inr m) = ap (λ b. eq x y || b) (among-member x ys m) ∙ or-true (eq x y)
    where
      or-true : (b : Bool) → (b || true) ≡ true
      or-true true = refl
      or-true false = refl

  not-among : (x : K) (xs : List K) → AllByRecursion (λ y. eq x y ≡ false) xs → IsAmong x xs → ⊥
  not-among x [] h m = m
  not-among x (y ∷ ys) h (inl e) = true≢false (sym (ap (eq x) (sym e) ∙ itself x) ∙ h.0)
  not-among x (y ∷ ys) h (inr m) = not-among x ys h.1 m

  differ : (keys : List K) → IsDistinct eq keys → AllDiffer keys
  differ [] h = tt
  differ (x ∷ xs) h = (not-among x xs (IsDistinct-head eq x xs h), differ xs (IsDistinct-tail eq x xs h))

  -- keys that are the members of a list are its different elements
  pub different : (keys all : List K) (n : ℕ) → IsDistinct eq keys → ((q : K) → list_any (eq q) keys ≡ list_any (eq q) all) → n ≡ length keys → HasDifferent all n
  different keys all n h e is = record {
    once = keys;
    differ = differ keys h;
    same = λ x. (λ m. member-among x all (sym (e x) ∙ among-member x keys m), λ m. member-among x keys (e x ∙ among-member x all m));
    count = sym is;
  }

-- What is among two lists.

pub among-front : {K : Type 0} (e : K) (xs ys : List K) → IsAmong e xs → IsAmong e (xs ++ ys)
among-front e [] ys m = absurd m
among-front e (x ∷ xs) ys (inl i) = inl i
among-front e (x ∷ xs) ys (inr m) = inr (among-front e xs ys m)

pub among-back : {K : Type 0} (e : K) (xs ys : List K) → IsAmong e ys → IsAmong e (xs ++ ys)
among-back e [] ys m = m
among-back e (x ∷ xs) ys m = inr (among-back e xs ys m)

pub among-either : {K : Type 0} (e : K) (xs ys : List K) → IsAmong e (xs ++ ys) → IsAmong e xs ⊎ IsAmong e ys
among-either e [] ys m = inr m
among-either e (x ∷ xs) ys (inl i) = inl (inl i)
among-either {K} e (x ∷ xs) ys (inr m) = by (among-either e xs ys m)
  where
    by : IsAmong e xs ⊎ IsAmong e ys → ((e ≡ x) ⊎ IsAmong e xs) ⊎ IsAmong e ys
    by (inl n) = inl (inr n)
    by (inr n) = inr n

-- what is left to be gained, where some of it was
pub gains-left : {K : Type 0} (target : K → Type 0) (has new some more : List K) → Gains has new some → ((e : K) → (IsAmong e has ⊎ IsAmong e (some ++ more)) ↔ target e)
    → (e : K) → (IsAmong e new ⊎ IsAmong e more) ↔ target e
gains-left {K} target has new some more g t e = (λ m. (t e).0 (to m), λ h. from ((t e).1 h))
  where
    gained : IsAmong e has ⊎ IsAmong e some → IsAmong e has ⊎ IsAmong e (some ++ more)
    gained (inl m) = inl m
    gained (inr m) = inr (among-front e some more m)

    to : IsAmong e new ⊎ IsAmong e more → IsAmong e has ⊎ IsAmong e (some ++ more)
    to (inl m) = gained ((g e).0 m)
    to (inr m) = inr (among-back e some more m)

    sorted : IsAmong e some ⊎ IsAmong e more → IsAmong e new ⊎ IsAmong e more
    sorted (inl m) = inl ((g e).1 (inr m))
    sorted (inr m) = inr m

    from : IsAmong e has ⊎ IsAmong e (some ++ more) → IsAmong e new ⊎ IsAmong e more
    from (inl m) = inl ((g e).1 (inl m))
    from (inr m) = sorted (among-either e some more m)

-- nothing is left to be gained
pub gained-end : {K : Type 0} (target : K → Type 0) (has left : List K) → left ≡ [] → ((e : K) → (IsAmong e has ⊎ IsAmong e left) ↔ target e) → (e : K) → IsAmong e has ↔ target e
gained-end {K} target has left l g e = (λ m. (g e).0 (inl m), λ t. by ((g e).1 t))
  where
    by : IsAmong e has ⊎ IsAmong e left → IsAmong e has
    by (inl m) = m
    by (inr m) = absurd (subst (IsAmong e) l m)

module _ {K : Type 0} (eq : K → K → Bool) (means : (a b : K) → eq a b ≡ true → a ≡ b) (itself : (a : K) → eq a a ≡ true) where
  -- a key that is put in
  pub inserted : (keys new : List K) (v : K) → new ≡ (if list_any (eq v) keys then keys else keys ++ v ∷ []) → Gains keys new (v ∷ [])
  inserted keys new v is e = by (list_any (eq v) keys) refl is
    where
      there : list_any (eq v) keys ≡ true → IsAmong e keys ⊎ IsAmong e (v ∷ []) → IsAmong e keys
      there h (inl m) = m
      there h (inr (inl i)) = subst (λ k. IsAmong k keys) (sym i) (member-among eq means itself v keys h)
      there h (inr (inr m)) = absurd m

      added : IsAmong e keys ⊎ IsAmong e (v ∷ []) → IsAmong e (keys ++ v ∷ [])
      added (inl m) = among-front e keys (v ∷ []) m
      added (inr m) = among-back e keys (v ∷ []) m

      by : (b : Bool) → list_any (eq v) keys ≡ b → new ≡ (if b then keys else keys ++ v ∷ []) → IsAmong e new ↔ (IsAmong e keys ⊎ IsAmong e (v ∷ []))
      by true h i = (λ m. inl (subst (IsAmong e) i m), λ m. subst (IsAmong e) (sym i) (there h m))
      by false h i = (λ m. among-either e keys (v ∷ []) (subst (IsAmong e) i m), λ m. subst (IsAmong e) (sym i) (added m))

  -- keys that a list gained from nothing
  pub gained-all : (keys left all : List K) (n : ℕ) → IsDistinct eq keys → left ≡ [] → ((e : K) → (IsAmong e keys ⊎ IsAmong e left) ↔ IsAmong e all) → n ≡ length keys → HasDifferent all n
  gained-all keys left all n h l g is = record {
    once = keys;
    differ = differ eq means itself keys h;
    same = λ x. (λ m. (g x).0 (inl m), λ m. by x ((g x).1 m));
    count = sym is;
  }
    where
      by : (x : K) → IsAmong x keys ⊎ IsAmong x left → IsAmong x keys
      by x (inl m) = m
      by x (inr m) = absurd (subst (IsAmong x) l m)

same-number : (a b : ℕ) → nat_eq a b ≡ true → a ≡ b
same-number a b h = grind (arith, nat_tests)

-- External functions.

abbrev pub same_external : Ext → Ext → Bool
same_external x y = (pointwise nat_eq x.0 y.0 && pointwise nat_eq x.1 y.1) && nat_eq x.2 y.2

first-of : (a b : Bool) → (a && b) ≡ true → a ≡ true
first-of true b h = refl
first-of false b h = h

second-of : (a b : Bool) → (a && b) ≡ true → b ≡ true
second-of true b h = h
second-of false b h = absurd (true≢false (sym h))

pub external-means : (x y : Ext) → same_external x y ≡ true → x ≡ y
external-means x y h =
    let texts = first-of (pointwise nat_eq x.0 y.0 && pointwise nat_eq x.1 y.1) (nat_eq x.2 y.2) h in
    let owners = same_text x.0 y.0 (sym (first-of (pointwise nat_eq x.0 y.0) (pointwise nat_eq x.1 y.1) texts)) in
    let names = same_text x.1 y.1 (sym (second-of (pointwise nat_eq x.0 y.0) (pointwise nat_eq x.1 y.1) texts)) in
    let arities = same-number x.2 y.2 (second-of (pointwise nat_eq x.0 y.0 && pointwise nat_eq x.1 y.1) (nat_eq x.2 y.2) h) in
    λ i. (owners i, names i, arities i)

pub external-itself : (x : Ext) → same_external x x ≡ true
external-itself x = both (pointwise nat_eq x.0 x.0) (pointwise nat_eq x.1 x.1) (nat_eq x.2 x.2) (nat_list_eq_equiv.refl x.0) (nat_list_eq_equiv.refl x.1) (nat_eq_equiv.refl x.2)
  where
    both : (a b c : Bool) → a ≡ true → b ≡ true → c ≡ true → ((a && b) && c) ≡ true
    both true b c h i j = ap (λ d. d && c) i ∙ j
    both false b c h i j = absurd (true≢false (sym h))

or-false : (b : Bool) → (b || false) ≡ b
or-false true = refl
or-false false = refl

-- a set of numbers, where nothing is left to be added
pub different-numbers : (keys left all : List ℕ) (n : ℕ) → IsDistinct nat_eq keys → left ≡ [] → ((q : ℕ) → (list_any (nat_eq q) keys || list_any (nat_eq q) left) ≡ list_any (nat_eq q) all) → n ≡ length keys
    → HasDifferent all n
different-numbers keys left all n h e g is =
    different nat_eq same-number nat_eq_equiv.refl keys all n h
    (λ q. sym (or-false (list_any (nat_eq q) keys)) ∙ ap (λ l. list_any (nat_eq q) keys || list_any (nat_eq q) l) (sym e) ∙ g q) is
