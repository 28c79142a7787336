-- The function that a call of a name and arity comes to: the first that has them.
use Rattle.std.proofs.Common.{◌≡◌, Bool, true, false, ◌||◌, nat_eq, List, [], ◌∷◌, ◌++◌, map, refl, sym, ap, ◌∙◌, subst}
use Rattle.std.specs.List.{list_any, list_all, AllByRecursion}
use Rattle.std.specs.Str.{bytes_eq}
use Rattle.std.proofs.lemmas.Bool.{and_parts, or_from, eqb-true}
use Rattle.std.proofs.lemmas.Slice.Eq.{bytes_eq-Decides}
use Rattle.beam_code.specs.declared.module.Function.{Function}
use Rattle.beam_code.specs.Keys.{Key, same_key, key_of, is_among, are_exports}

-- the functions before it have another name or arity
pub record Found (key : Key) (fs : List Function) : Type 0 where
  pub before : List Function
  pub function : Function
  pub after : List Function
  pub is : fs ≡ before ++ function ∷ after
  pub others : list_any (λ f. same_key key (key_of f)) before ≡ false
  pub here : same_key key (key_of function) ≡ true

pub found : (key : Key) (fs : List Function) → is_among (map key_of fs) key ≡ true → Found key fs
found key [] among = absurd cc
found key (f ∷ fs) among = at (same_key key (key_of f)) refl (found key fs)
  where
    at : (b : Bool) → same_key key (key_of f) ≡ b → (is_among (map key_of fs) key ≡ true → Found key fs) → Found key (f ∷ fs)
    at true e more = record { before = []; function = f; after = fs; is = refl; others = refl; here = e }
    at false e more =
        let rest = more (sym (ap (λ c. c || is_among (map key_of fs) key) e) ∙ among) in
        record { before = f ∷ rest.before; function = rest.function; after = rest.after; is = ap (λ gs. f ∷ gs) rest.is; others = or_from (same_key key (key_of f)) (list_any (λ g. same_key key (key_of g)) rest.before) e rest.others; here = rest.here }

-- keys that are the same are one
pub same-keys : (a b : Key) → same_key a b ≡ true → a ≡ b
same-keys a b e =
    let p = and_parts (bytes_eq a.0 b.0) (nat_eq a.1 b.1) e in
    λ i. ((bytes_eq-Decides a.0 b.0).0 p.0 i, eqb-true a.1 b.1 p.1 i)

-- what holds of all holds of the one between others
pub all-here : {X : Type 0} (P : X → Type 0) (xs : List X) (y : X) (ys : List X) → AllByRecursion P (xs ++ y ∷ ys) → P y
all-here P [] y ys all = all.0
all-here P (x ∷ xs) y ys all = all-here P xs y ys all.1

pub test-here : {X : Type 0} (test : X → Bool) (xs : List X) (y : X) (ys : List X) → list_all test (xs ++ y ∷ ys) ≡ true → test y ≡ true
test-here test [] y ys all = (and_parts (test y) (list_all test ys) all).0
test-here test (x ∷ xs) y ys all = test-here test xs y ys (and_parts (test x) (list_all test (xs ++ y ∷ ys)) all).1

pub all-of-found : (key : Key) (fs : List Function) (P : Function → Type 0) (f : Found key fs) → AllByRecursion P fs → P f.function
all-of-found key fs P f all = all-here P f.before f.function f.after (subst (AllByRecursion P) f.is all)

pub test-of-found : (key : Key) (fs : List Function) (test : Function → Bool) (f : Found key fs) → list_all test fs ≡ true → test f.function ≡ true
test-of-found key fs test f all = test-here test f.before f.function f.after (sym (ap (list_all test) f.is) ∙ all)

-- an export is one of the functions
pub exported-function : (key : Key) (exports : List Key) (fs : List Function) → are_exports exports fs ≡ true → is_among exports key ≡ true → is_among (map key_of fs) key ≡ true
exported-function key [] fs all among = absurd cc
exported-function key (k ∷ exports) fs all among = at (same_key key k) refl among (exported-function key exports fs p.1)
  where
    p : (is_among (map key_of fs) k ≡ true) × (list_all (is_among (map key_of fs)) exports ≡ true)
    p = and_parts (is_among (map key_of fs) k) (list_all (is_among (map key_of fs)) exports) all

    at : (b : Bool) → same_key key k ≡ b → (b || is_among exports key) ≡ true → (is_among exports key ≡ true → is_among (map key_of fs) key ≡ true) → is_among (map key_of fs) key ≡ true
    at true same among' more = ap (is_among (map key_of fs)) (same-keys key k same) ∙ p.0
    at false other among' more = more among'
