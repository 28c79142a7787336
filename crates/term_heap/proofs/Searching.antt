-- What the place of a key in a list of entries says of the map that it makes.
use Rattle.std.proofs.Common.{◌≡◌, ℕ, ◌+◌, ◌<◌, ◌≤◌, false, if◌then◌else◌, List, [], ◌∷◌, ◌++◌, length, slice_get, slice_set, insert, remove, Some, option_map, refl, sym, ap, ap₂, subst, ◌∙◌, arith}
use Rattle.std.specs.Prelude as std
use Rattle.std.specs.Prelude.{Result, Ok, Err}
use Rattle.std.specs.Ordering.{is_eq}
use Rattle.std.specs.declared.cmp.Ordering.TheVariants.{Less, Equal, Greater}
use Rattle.std.proofs.lemmas.List.{append_assoc, length-append}
use Rattle.ej_term.specs.Term.{Term, Pairs, Empty, Pair}
use Rattle.ej_term.specs.Order.{compare}
use Rattle.ej_term.specs.Maps as maps
use Rattle.ej_term.specs.Maps.{put, value_at}
use Rattle.ej_term.specs.Tests.{equal}
use Rattle.ej_term.proofs.OrderLaws.{compare-total}
use Rattle.term_heap.specs.Cells.{onto, from_entries}
use Rattle.term_heap.specs.Entries.{Above, Rising}
use Rattle.term_heap.specs.Maps.{Below, StandsAt, GoesTo, IsPlace}
use Rattle.term_heap.proofs.Putting.{put-less, put-equal, put-greater, lesser, greater, above-below, onto-append, same-key}

abbrev pub Entry : Type 0
Entry = Term × Term

-- ---- lists that rise

pub below-append : (key : Term) (xs ys : List Entry) → Below key xs → Below key ys → Below key (xs ++ ys)
below-append key [] ys b c = c
below-append key (x ∷ xs) ys b c = (b.0, below-append key xs ys b.1 c)

pub above-append : (key : Term) (xs ys : List Entry) → Above key (from_entries xs) → Above key (from_entries ys) → Above key (from_entries (xs ++ ys))
above-append key [] ys a b = b
above-append key (x ∷ xs) ys a b = (a.0, above-append key xs ys a.1 b)

pub above-behind : (key : Term) (xs ys : List Entry) → Above key (from_entries (xs ++ ys)) → Above key (from_entries ys)
above-behind key [] ys a = a
above-behind key (x ∷ xs) ys a = above-behind key xs ys a.1

above-front : (key : Term) (xs ys : List Entry) → Above key (from_entries (xs ++ ys)) → Above key (from_entries xs)
above-front key [] ys a = tt
above-front key (x ∷ xs) ys a = (a.0, above-front key xs ys a.1)

pub rising-front : (xs ys : List Entry) → Rising (from_entries (xs ++ ys)) → Rising (from_entries xs)
rising-front [] ys r = tt
rising-front (x ∷ xs) ys r = (above-front x.0 xs ys r.0, rising-front xs ys r.1)

pub rising-behind : (xs ys : List Entry) → Rising (from_entries (xs ++ ys)) → Rising (from_entries ys)
rising-behind [] ys r = r
rising-behind (x ∷ xs) ys r = rising-behind xs ys r.1

-- what stands in front of an entry whose key is below one is below it too
pub below-front : (key : Term) (xs : List Entry) (e : Entry) (ys : List Entry) → Rising (from_entries (xs ++ e ∷ ys)) → compare key e.0 ≡ Greater → Below key xs
below-front key [] e ys r g = tt
below-front key (x ∷ xs) e ys r g =
    (greater x.0 key (compare-total.trans x.0 e.0 key (above-behind x.0 xs (e ∷ ys) r.0).0 (lesser key e.0 g)), below-front key xs e ys r.1 g)

-- ---- the place in a tree, by those beside its root

pub goes-first : (key : Term) (es : List Entry) → es ≡ [] → IsPlace key es (Err 0)
goes-first key es e = record { front = []; behind = []; are = e; count = refl; below = tt; above = tt }

pub stands-here : (key : Term) (es xs : List Entry) (e : Entry) (ys : List Entry) (n : ℕ) → es ≡ xs ++ e ∷ ys → n ≡ length xs → Rising (from_entries es) → compare key e.0 ≡ Equal → IsPlace key es (Ok n)
stands-here key es xs e ys n are count r same = record {
  front = xs;
  entry = e;
  behind = ys;
  are = are;
  count = sym count;
  below = below-equal xs (subst (λ (zs : List Entry). Rising (from_entries zs)) are r);
  same = same;
}
  where
    below-equal : (xs : List Entry) → Rising (from_entries (xs ++ e ∷ ys)) → Below key xs
    below-equal [] r = tt
    below-equal (x ∷ xs) r = (greater x.0 key (ap (compare x.0) (same-key key e.0 same) ∙ (above-behind x.0 xs (e ∷ ys) r.0).0), below-equal xs r.1)

pub stands-before : (key : Term) (es xs : List Entry) (e : Entry) (ys : List Entry) (r : Result ℕ ℕ) → es ≡ xs ++ e ∷ ys → Rising (from_entries es) → compare key e.0 ≡ Less → IsPlace key xs r → IsPlace key es r
stands-before key es xs e ys (Ok n) are r less p = record {
  front = p.front;
  entry = p.entry;
  behind = p.behind ++ e ∷ ys;
  are = are ∙ ap (λ (zs : List Entry). zs ++ e ∷ ys) p.are ∙ append_assoc p.front (p.entry ∷ p.behind) (e ∷ ys);
  count = p.count;
  below = p.below;
  same = p.same;
}
stands-before key es xs e ys (Err n) are r less p =
    let rises = rising-behind xs (e ∷ ys) (subst (λ (zs : List Entry). Rising (from_entries zs)) are r) in
    record {
      front = p.front;
      behind = p.behind ++ e ∷ ys;
      are = are ∙ ap (λ (zs : List Entry). zs ++ e ∷ ys) p.are ∙ append_assoc p.front p.behind (e ∷ ys);
      count = p.count;
      below = p.below;
      above = above-append key p.behind (e ∷ ys) p.above (less, above-below key e.0 (from_entries ys) less rises.0);
    }

behind-are : (es xs : List Entry) (e : Entry) (ys front rest : List Entry) → es ≡ xs ++ e ∷ ys → ys ≡ front ++ rest → es ≡ (xs ++ e ∷ front) ++ rest
behind-are es xs e ys front rest are d = are ∙ ap (λ (zs : List Entry). xs ++ e ∷ zs) d ∙ sym (append_assoc xs (e ∷ front) rest)

behind-count : (xs : List Entry) (e : Entry) (front : List Entry) (b n m : ℕ) → b ≡ length xs + 1 → length front ≡ n → m ≡ b + n → length (xs ++ e ∷ front) ≡ m
behind-count xs e front b n m d c k = omega (arith, length-append xs (e ∷ front), d, c, k)

pub stands-behind : (key : Term) (es xs : List Entry) (e : Entry) (ys : List Entry) (b n m : ℕ) → es ≡ xs ++ e ∷ ys → b ≡ length xs + 1 → m ≡ b + n → Rising (from_entries es) → compare key e.0 ≡ Greater → StandsAt key ys n → StandsAt key es m
stands-behind key es xs e ys b n m are count k r g p = record {
  front = xs ++ e ∷ p.front;
  entry = p.entry;
  behind = p.behind;
  are = behind-are es xs e ys p.front (p.entry ∷ p.behind) are p.are;
  count = behind-count xs e p.front b n m count p.count k;
  below = below-append key xs (e ∷ p.front) (below-front key xs e ys (subst (λ (zs : List Entry). Rising (from_entries zs)) are r) g) (g, p.below);
  same = p.same;
}

pub goes-behind : (key : Term) (es xs : List Entry) (e : Entry) (ys : List Entry) (b n m : ℕ) → es ≡ xs ++ e ∷ ys → b ≡ length xs + 1 → m ≡ b + n → Rising (from_entries es) → compare key e.0 ≡ Greater → GoesTo key ys n → GoesTo key es m
goes-behind key es xs e ys b n m are count k r g p = record {
  front = xs ++ e ∷ p.front;
  behind = p.behind;
  are = behind-are es xs e ys p.front p.behind are p.are;
  count = behind-count xs e p.front b n m count p.count k;
  below = below-append key xs (e ∷ p.front) (below-front key xs e ys (subst (λ (zs : List Entry). Rising (from_entries zs)) are r) g) (g, p.below);
  above = p.above;
}

-- ---- what a place is good for

pub stands-within : (key : Term) (es : List Entry) (n : ℕ) → StandsAt key es n → n < length es
stands-within key es n p = omega (arith, ap length p.are ∙ length-append p.front (p.entry ∷ p.behind), p.count)

pub goes-within : (key : Term) (es : List Entry) (n : ℕ) → GoesTo key es n → n ≤ length es
goes-within key es n p = omega (arith, ap length p.are ∙ length-append p.front p.behind, p.count)

set-at : {X : Type 0} (xs : List X) (x : X) (ys : List X) (y : X) → slice_set (xs ++ x ∷ ys) (length xs) y ≡ xs ++ y ∷ ys
set-at [] x ys y = refl
set-at (a ∷ xs) x ys y = ap (◌∷◌ a) (set-at xs x ys y)

insert-at : {X : Type 0} (xs ys : List X) (y : X) → insert (xs ++ ys) (length xs) y ≡ xs ++ y ∷ ys
insert-at [] ys y = refl
insert-at (a ∷ xs) ys y = ap (◌∷◌ a) (insert-at xs ys y)

remove-at : {X : Type 0} (xs : List X) (x : X) (ys : List X) → remove (xs ++ x ∷ ys) (length xs) ≡ xs ++ ys
remove-at [] x ys = refl
remove-at (a ∷ xs) x ys = ap (◌∷◌ a) (remove-at xs x ys)

nth-at : {X : Type 0} (xs : List X) (x : X) (ys : List X) → slice_get (xs ++ x ∷ ys) (length xs) ≡ Some x
nth-at [] x ys = refl
nth-at (a ∷ xs) x ys = nth-at xs x ys

put-onto : (key value : Term) (xs : List Entry) (ps : Pairs) → Below key xs → put key value (onto xs ps) ≡ onto xs (put key value ps)
put-onto key value [] ps b = refl
put-onto key value (x ∷ xs) ps b = put-greater key value x.0 x.1 (onto xs ps) b.0 ∙ ap (Pair x.0 x.1) (put-onto key value xs ps b.1)

not-equal : (key other : Term) → compare key other ≡ Greater → equal key other ≡ false
not-equal key other e = ap is_eq e

value-onto : (key : Term) (xs : List Entry) (ps : Pairs) → Below key xs → value_at key (onto xs ps) ≡ value_at key ps
value-onto key [] ps b = refl
value-onto key (x ∷ xs) ps b = ap (λ t. if t then Some x.1 else value_at key (onto xs ps)) (not-equal key x.0 b.0) ∙ value-onto key xs ps b.1

remove-onto : (key : Term) (xs : List Entry) (ps : Pairs) → Below key xs → maps.remove key (onto xs ps) ≡ onto xs (maps.remove key ps)
remove-onto key [] ps b = refl
remove-onto key (x ∷ xs) ps b = ap (λ t. if t then onto xs ps else Pair x.0 x.1 (maps.remove key (onto xs ps))) (not-equal key x.0 b.0) ∙ ap (Pair x.0 x.1) (remove-onto key xs ps b.1)

-- a key that is above none of these
put-above : (key value : Term) (es : List Entry) → Above key (from_entries es) → put key value (from_entries es) ≡ Pair key value (from_entries es)
put-above key value [] a = refl
put-above key value (x ∷ xs) a = put-less key value x.0 x.1 (from_entries xs) a.0

value-above : (key : Term) (es : List Entry) → Above key (from_entries es) → value_at key (from_entries es) ≡ std.None
value-above key [] a = refl
value-above key (x ∷ xs) a = ap (λ t. if t then Some x.1 else value_at key (from_entries xs)) (ap is_eq a.0) ∙ value-above key xs a.1

remove-above : (key : Term) (es : List Entry) → Above key (from_entries es) → maps.remove key (from_entries es) ≡ from_entries es
remove-above key [] a = refl
remove-above key (x ∷ xs) a = ap (λ t. if t then from_entries xs else Pair x.0 x.1 (maps.remove key (from_entries xs))) (ap is_eq a.0) ∙ ap (Pair x.0 x.1) (remove-above key xs a.1)

pub put-here : (key value : Term) (es : List Entry) (n : ℕ) → StandsAt key es n → from_entries (slice_set es n (key, value)) ≡ put key value (from_entries es)
put-here key value es n p =
    ap₂ (λ (zs : List Entry) k. from_entries (slice_set zs k (key, value))) p.are (sym p.count) ∙ ap from_entries (set-at p.front p.entry p.behind (key, value))
    ∙ onto-append p.front ((key, value) ∷ p.behind) Empty
    ∙ ap (onto p.front) (sym (put-equal key value p.entry.0 p.entry.1 (from_entries p.behind) p.same))
    ∙ sym (put-onto key value p.front (from_entries (p.entry ∷ p.behind)) p.below)
    ∙ ap (put key value) (sym (onto-append p.front (p.entry ∷ p.behind) Empty) ∙ ap from_entries (sym p.are))

pub put-new : (key value : Term) (es : List Entry) (n : ℕ) → GoesTo key es n → from_entries (insert es n (key, value)) ≡ put key value (from_entries es)
put-new key value es n p =
    ap₂ (λ (zs : List Entry) k. from_entries (insert zs k (key, value))) p.are (sym p.count) ∙ ap from_entries (insert-at p.front p.behind (key, value))
    ∙ onto-append p.front ((key, value) ∷ p.behind) Empty
    ∙ ap (onto p.front) (sym (put-above key value p.behind p.above))
    ∙ sym (put-onto key value p.front (from_entries p.behind) p.below)
    ∙ ap (put key value) (sym (onto-append p.front p.behind Empty) ∙ ap from_entries (sym p.are))

pub removed-here : (key : Term) (es : List Entry) (n : ℕ) → StandsAt key es n → from_entries (remove es n) ≡ maps.remove key (from_entries es)
removed-here key es n p =
    ap₂ (λ (zs : List Entry) k. from_entries (remove zs k)) p.are (sym p.count) ∙ ap from_entries (remove-at p.front p.entry p.behind)
    ∙ onto-append p.front p.behind Empty
    ∙ ap (onto p.front) (sym (ap (λ t. if t then from_entries p.behind else Pair p.entry.0 p.entry.1 (maps.remove key (from_entries p.behind))) (ap is_eq p.same)))
    ∙ sym (remove-onto key p.front (from_entries (p.entry ∷ p.behind)) p.below)
    ∙ ap (maps.remove key) (sym (onto-append p.front (p.entry ∷ p.behind) Empty) ∙ ap from_entries (sym p.are))

pub not-there : (key : Term) (es : List Entry) (n : ℕ) → GoesTo key es n → maps.remove key (from_entries es) ≡ from_entries es
not-there key es n p =
    ap (maps.remove key) (ap from_entries p.are ∙ onto-append p.front p.behind Empty)
    ∙ remove-onto key p.front (from_entries p.behind) p.below
    ∙ ap (onto p.front) (remove-above key p.behind p.above)
    ∙ sym (onto-append p.front p.behind Empty) ∙ ap from_entries (sym p.are)

pub value-here : (key : Term) (es : List Entry) (n : ℕ) (e : Entry) → StandsAt key es n → slice_get es n ≡ Some e → Some e.1 ≡ value_at key (from_entries es)
value-here key es n e p g =
    let same : Some e ≡ Some p.entry = sym g ∙ ap₂ slice_get p.are (sym p.count) ∙ nth-at p.front p.entry p.behind in
    ap (option_map (λ (x : Entry). x.1)) same
    ∙ sym (ap (λ t. if t then Some p.entry.1 else value_at key (from_entries p.behind)) (ap is_eq p.same))
    ∙ sym (value-onto key p.front (from_entries (p.entry ∷ p.behind)) p.below)
    ∙ ap (value_at key) (sym (onto-append p.front (p.entry ∷ p.behind) Empty) ∙ ap from_entries (sym p.are))

pub no-value : (key : Term) (es : List Entry) (n : ℕ) → GoesTo key es n → std.None ≡ value_at key (from_entries es)
no-value key es n p =
    sym (value-above key p.behind p.above)
    ∙ sym (value-onto key p.front (from_entries p.behind) p.below)
    ∙ ap (value_at key) (sym (onto-append p.front p.behind Empty) ∙ ap from_entries (sym p.are))

pub removed-rises : (key : Term) (es : List Entry) (n : ℕ) → StandsAt key es n → Rising (from_entries es) → Rising (from_entries (remove es n))
removed-rises key es n p r =
    subst (λ (zs : List Entry). Rising (from_entries zs)) (sym (ap₂ (λ (zs : List Entry) k. remove zs k) p.are (sym p.count) ∙ remove-at p.front p.entry p.behind))
    (less p.front (subst (λ (zs : List Entry). Rising (from_entries zs)) p.are r))
  where
    fewer : (k : Term) (xs : List Entry) → Above k (from_entries (xs ++ p.entry ∷ p.behind)) → Above k (from_entries (xs ++ p.behind))
    fewer k [] a = a.1
    fewer k (x ∷ xs) a = (a.0, fewer k xs a.1)

    less : (xs : List Entry) → Rising (from_entries (xs ++ p.entry ∷ p.behind)) → Rising (from_entries (xs ++ p.behind))
    less [] r = r.1
    less (x ∷ xs) r = (fewer x.0 xs r.0, less xs r.1)
