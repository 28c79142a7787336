-- A tuple with another element, and a tuple of one element many times.
use Rattle.std.proofs.Common.{◌≡◌, ℕ, zero, suc, pos, ◌<◌, ◌≤◌, Bool, true, false, if◌then◌else◌, List, ◌∷◌, length, map, replicate, slice_set, nat_lt, nat_le, Some, refl, sym, ap, ap₂, ◌∙◌, arith, true≢false}
use Rattle.std.proofs.lemmas.Option.{none-some}
use Rattle.std.proofs.lemmas.Bool.Decides.{nat_tests}
use Rattle.ej_term.specs.Term.{Term, Int, Tuple, tuple}
use Rattle.ej_term.specs.Order.{size}
use Rattle.ej_term.specs.Outcome.{Value, badarg}
use Rattle.ej_term.specs.Tuples.{items, setelement, make_tuple}
use Rattle.ej_term.proofs.Options.{unsome}
use Rattle.term_ops.specs.Parts.{tuple_elements, place_of, natural_of}
use Rattle.term_ops.proofs.SizeLemmas.{size-items}

yes : {X : Type 0} (b : Bool) (x y : X) → b ≡ true → x ≡ (if b then x else y)
yes true x y e = refl
yes false x y e = absurd (true≢false (sym e))

no : {X : Type 0} (b : Bool) (x y : X) → b ≡ false → y ≡ (if b then x else y)
no true x y e = absurd (true≢false e)
no false x y e = refl

pub set-element : (t u v : Term) (place : ℕ) (xs : List Term) → Some place ≡ place_of t → Some xs ≡ tuple_elements u → place < length xs → Value (tuple (slice_set xs place v)) ≡ setelement t u v
set-element (Int (pos (suc p))) (Tuple parts) v place xs e f h =
    let i : place ≡ p = unsome place p e in
    let k : xs ≡ items parts = unsome xs (items parts) f in
    let s = size-items parts in
    let l = ap length k in
    let t : nat_lt p (size parts) ≡ true = grind (arith, nat_tests, h, i, s, l) in
    ap₂ (λ (ys : List Term) (j : ℕ). Value (tuple (slice_set ys j v))) k i ∙ yes (nat_lt p (size parts)) _ badarg t
set-element t (Tuple parts) v place xs e f h = absurd (none-some place (sym e))
set-element t u v place xs e f h = absurd (none-some xs (sym f))

pub set-none : (t u v : Term) (place : ℕ) (xs : List Term) → Some place ≡ place_of t → Some xs ≡ tuple_elements u → length xs ≤ place → badarg ≡ setelement t u v
set-none (Int (pos (suc p))) (Tuple parts) v place xs e f h =
    let i : place ≡ p = unsome place p e in
    let k : xs ≡ items parts = unsome xs (items parts) f in
    let s = size-items parts in
    let l = ap length k in
    let t : nat_lt p (size parts) ≡ false = grind (arith, nat_tests, h, i, s, l) in
    no (nat_lt p (size parts)) (Value (tuple (slice_set (items parts) p v))) badarg t
set-none t (Tuple parts) v place xs e f h = absurd (none-some place (sym e))
set-none t u v place xs e f h = absurd (none-some xs (sym f))

pub many : (t v : Term) (n : ℕ) → Some n ≡ natural_of t → n ≤ 16777215 → Value (tuple (replicate n v)) ≡ make_tuple t v
many (Int (pos k)) v n e h =
    let i : n ≡ k = unsome n k e in
    let t : nat_le k 16777215 ≡ true = grind (arith, nat_tests, h, i) in
    ap (λ j. Value (tuple (replicate j v))) i ∙ yes (nat_le k 16777215) _ badarg t
many t v n e h = absurd (none-some n (sym e))

pub replicated : {A B : Type 0} (f : A → B) (n : ℕ) (x : A) → map f (replicate n x) ≡ replicate n (f x)
replicated f zero x = refl
replicated f (suc n) x = ap (λ ys. f x ∷ ys) (replicated f n x)
