-- What a step of the comparison does to the order of what is left.
use Rattle.std.proofs.Common.{◌≡◌, ℕ, ◌+◌, List, [], ◌∷◌, ◌++◌, length, map, Some, option_and_then, refl, sym, ap, ◌∙◌, zero, suc, arith}
use Rattle.std.specs.Ordering.{ordering_then}
use Rattle.ej_term.specs.Term.{Term, Pair, terms}
use Rattle.ej_term.specs.Order.{size, count, compare, compare_each, compare_keys, compare_values}
use Rattle.ej_term.proofs.Options.{unsome}
use Rattle.ej_term.proofs.OrderCode.{then-assoc}
use Rattle.term_heap.specs.Cells.{Parts, from_entries, term_for, part_at, parts_of}
use Rattle.term_heap.specs.Entries.{pairs}
use Rattle.term_heap.specs.Works.{weight, weight_each, weight_pairs}
use Rattle.term_heap.proofs.Meanings.{both-parts}

-- the sum of these terms' weights
abbrev pub weights : List Term → ℕ
weights [] = 0
weights (t ∷ ts) = 1 + weight t + weights ts

pub weights-append : (xs ys : List Term) → weights (xs ++ ys) ≡ weights xs + weights ys
weights-append [] ys = omega arith
weights-append (x ∷ xs) ys = ap (λ n. 1 + weight x + n) (weights-append xs ys) ∙ omega arith

pub weight_each-terms : (xs : List Term) → weight_each (terms xs) ≡ 1 + weights xs
weight_each-terms [] = refl
weight_each-terms (x ∷ xs) = ap (λ n. 1 + weight x + n) (weight_each-terms xs) ∙ omega arith

pub weight_pairs-pairs : (ks vs : List Term) → length ks ≡ length vs → weight_pairs (pairs ks vs) ≡ 1 + (weights ks + weights vs)
weight_pairs-pairs [] [] e = refl
weight_pairs-pairs [] (v ∷ vs) e = absurd (omega (arith, e))
weight_pairs-pairs (k ∷ ks) [] e = absurd (omega (arith, e))
weight_pairs-pairs (k ∷ ks) (v ∷ vs) e = ap (λ n. 1 + weight k + (1 + weight v) + n) (weight_pairs-pairs ks vs (omega (arith, e))) ∙ omega arith

pub size-terms : (xs : List Term) → size (terms xs) ≡ length xs
size-terms [] = refl
size-terms (x ∷ xs) = ap suc (size-terms xs)

pub count-pairs : (ks vs : List Term) → length ks ≡ length vs → count (pairs ks vs) ≡ length ks
count-pairs [] [] e = refl
count-pairs [] (v ∷ vs) e = refl
count-pairs (k ∷ ks) [] e = absurd (omega (arith, e))
count-pairs (k ∷ ks) (v ∷ vs) e = ap suc (count-pairs ks vs (omega (arith, e)))

pub each-append : (xs ys us vs : List Term) → length xs ≡ length us → compare_each (terms (xs ++ ys)) (terms (us ++ vs)) ≡ ordering_then (compare_each (terms xs) (terms us)) (compare_each (terms ys) (terms vs))
each-append [] ys [] vs e = refl
each-append [] ys (u ∷ us) vs e = absurd (omega (arith, e))
each-append (x ∷ xs) ys [] vs e = absurd (omega (arith, e))
each-append (x ∷ xs) ys (u ∷ us) vs e =
    ap (ordering_then (compare x u)) (each-append xs ys us vs (omega (arith, e)))
    ∙ sym (then-assoc (compare x u) (compare_each (terms xs) (terms us)) (compare_each (terms ys) (terms vs)))

pub keys-each : (ks vs ls ws : List Term) → length ks ≡ length vs → length ls ≡ length ws → compare_keys (pairs ks vs) (pairs ls ws) ≡ compare_each (terms ks) (terms ls)
keys-each [] [] [] [] e d = refl
keys-each [] [] (l ∷ ls) (w ∷ ws) e d = refl
keys-each (k ∷ ks) (v ∷ vs) [] [] e d = refl
keys-each (k ∷ ks) (v ∷ vs) (l ∷ ls) (w ∷ ws) e d = ap (ordering_then (compare k l)) (keys-each ks vs ls ws (omega (arith, e)) (omega (arith, d)))
keys-each [] (v ∷ vs) ls ws e d = absurd (omega (arith, e))
keys-each (k ∷ ks) [] ls ws e d = absurd (omega (arith, e))
keys-each ks vs [] (w ∷ ws) e d = absurd (omega (arith, d))
keys-each ks vs (l ∷ ls) [] e d = absurd (omega (arith, d))

pub values-each : (ks vs ls ws : List Term) → length ks ≡ length vs → length ls ≡ length ws → compare_values (pairs ks vs) (pairs ls ws) ≡ compare_each (terms vs) (terms ws)
values-each [] [] [] [] e d = refl
values-each [] [] (l ∷ ls) (w ∷ ws) e d = refl
values-each (k ∷ ks) (v ∷ vs) [] [] e d = refl
values-each (k ∷ ks) (v ∷ vs) (l ∷ ls) (w ∷ ws) e d = ap (ordering_then (compare v w)) (values-each ks vs ls ws (omega (arith, e)) (omega (arith, d)))
values-each [] (v ∷ vs) ls ws e d = absurd (omega (arith, e))
values-each (k ∷ ks) [] ls ws e d = absurd (omega (arith, e))
values-each ks vs [] (w ∷ ws) e d = absurd (omega (arith, d))
values-each ks vs (l ∷ ls) [] e d = absurd (omega (arith, d))

-- the length of the terms of so many parts
pub parts-length : (ps : Parts) (ts : List Term) (first count : ℕ) (xs : List Term) → parts_of ps ts first count ≡ Some xs → length xs ≡ count
parts-length ps ts first zero xs e = ap length (sym (unsome [] xs e))
parts-length ps ts first (suc count) xs e =
    let b = both-parts (◌∷◌) (option_and_then (term_for ts) (part_at ps first)) (parts_of ps ts (suc first) count) xs e in
    ap length (sym b.4) ∙ ap suc (parts-length ps ts (suc first) count b.1 b.3)

-- entries as keys and values
pub as-pairs : (us : List (Term × Term)) → from_entries us ≡ pairs (map (λ e. e.0) us) (map (λ e. e.1) us)
as-pairs [] = refl
as-pairs (u ∷ us) = ap (Pair u.0 u.1) (as-pairs us)
