-- Pairs with rising keys are a finite map.
use Rattle.std.proofs.Common.{◌≡◌, Bool, true, false, ◌&&◌, if◌then◌else◌, Option, Some, refl, sym, ap, ◌∙◌, subst, true≢false, Ordering, Less, Equal, Greater, is_eq, is_lt}
use Rattle.std.specs.Prelude as std
use Rattle.std.specs.Ordering.{match_ordering, ordering_reverse}
use Rattle.std.proofs.lemmas.Option.{none-some}
use Rattle.ej_term.specs.Term.{Term, Pairs, Empty, Pair}
use Rattle.ej_term.specs.Order.{compare}
use Rattle.ej_term.specs.Tests.{less, equal}
use Rattle.ej_term.specs.Maps.{put, value_at, remove, is_before, rises, AreMaps}
use Rattle.ej_term.proofs.Options.{unsome}
use Rattle.ej_term.proofs.OrderLaws.{compare-total, compare-itself, order-exact}

both-true : (a b : Bool) → a && b ≡ true → (a ≡ true) × (b ≡ true)
both-true true b e = (refl, e)
both-true false b e = absurd (true≢false (sym e))

and-true : (a b : Bool) → a ≡ true → b ≡ true → a && b ≡ true
and-true a b e f = ap (λ c. c && b) e ∙ f

is-Equal : (o : Ordering) → is_eq o ≡ true → o ≡ Equal
is-Equal Less e = absurd (true≢false (sym e))
is-Equal Equal e = refl
is-Equal Greater e = absurd (true≢false (sym e))

is-Less : (o : Ordering) → is_lt o ≡ true → o ≡ Less
is-Less Less e = refl
is-Less Equal e = absurd (true≢false (sym e))
is-Less Greater e = absurd (true≢false (sym e))

pub equal-terms : (a b : Term) → equal a b ≡ true → a ≡ b
equal-terms a b e = (order-exact a b).0 (is-Equal (compare a b) e)

pub equal-itself : (a : Term) → equal a a ≡ true
equal-itself a = ap is_eq (compare-itself a)

less-other : (a b : Term) → less a b ≡ true → equal a b ≡ false
less-other a b e = ap is_eq (is-Less (compare a b) e)

less-turned : (a b : Term) → less a b ≡ true → equal b a ≡ false
less-turned a b e = ap is_eq (compare-total.antisymm b a ∙ ap ordering_reverse (is-Less (compare a b) e))

less-chain : (a b c : Term) → less a b ≡ true → less b c ≡ true → less a c ≡ true
less-chain a b c e f = ap is_lt (compare-total.trans a b c (is-Less (compare a b) e) (is-Less (compare b c) f))

greater-turned : (a b : Term) → compare a b ≡ Greater → less b a ≡ true
greater-turned a b e = ap is_lt (compare-total.antisymm b a ∙ ap ordering_reverse e)

-- two tests that do not both hold may be made in either order
either-order : (p q : Bool) (x y z : Option Term) → (p ≡ true → q ≡ false) → (if p then x else (if q then y else z)) ≡ (if q then y else (if p then x else z))
either-order true true x y z apart = absurd (true≢false (apart refl))
either-order true false x y z apart = refl
either-order false q x y z apart = refl

twice : (p : Bool) (x y z : Option Term) → (if p then x else z) ≡ (if p then x else (if p then y else z))
twice true x y z = refl
twice false x y z = refl

put-at : (k v l : Term) (ps : Pairs) → value_at l (put k v ps) ≡ (if equal l k then Some v else value_at l ps)
put-at k v l Empty = refl
put-at k v l (Pair other held rest) = go (compare k other) refl (put-at k v l rest)
  where
    go : (o : Ordering) → compare k other ≡ o → value_at l (put k v rest) ≡ (if equal l k then Some v else value_at l rest)
        → value_at l (match_ordering o (Pair k v (Pair other held rest)) (Pair k v rest) (Pair other held (put k v rest)))
        ≡ (if equal l k then Some v else value_at l (Pair other held rest))
    go Less e later = refl
    go Equal e later =
        subst (λ m. (if equal l k then Some v else value_at l rest) ≡ (if equal l k then Some v else (if equal l m then Some held else value_at l rest)))
        ((order-exact k other).0 e) (twice (equal l k) (Some v) (Some held) (value_at l rest))
    go Greater e later =
        ap (λ x. if equal l other then Some held else x) later
        ∙ either-order (equal l other) (equal l k) (Some held) (Some v) (value_at l rest)
        (λ h. subst (λ m. equal m k ≡ false) (sym (equal-terms l other h)) (less-other other k (greater-turned k other e)))

before-put : (m k v : Term) (ps : Pairs) → less m k ≡ true → is_before m ps ≡ true → is_before m (put k v ps) ≡ true
before-put m k v Empty e f = e
before-put m k v (Pair other held rest) e f = go (compare k other)
  where
    go : (o : Ordering) → is_before m (match_ordering o (Pair k v (Pair other held rest)) (Pair k v rest) (Pair other held (put k v rest))) ≡ true
    go Less = e
    go Equal = e
    go Greater = f

put-rises : (k v : Term) (ps : Pairs) → rises ps ≡ true → rises (put k v ps) ≡ true
put-rises k v Empty r = refl
put-rises k v (Pair other held rest) r = go (compare k other) refl (put-rises k v rest (both-true (is_before other rest) (rises rest) r).1)
  where
    go : (o : Ordering) → compare k other ≡ o → rises (put k v rest) ≡ true
        → rises (match_ordering o (Pair k v (Pair other held rest)) (Pair k v rest) (Pair other held (put k v rest))) ≡ true
    go Less e later = and-true (less k other) (rises (Pair other held rest)) (ap is_lt e) r
    go Equal e later = subst (λ m. rises (Pair m v rest) ≡ true) (sym ((order-exact k other).0 e)) r
    go Greater e later =
        and-true (is_before other (put k v rest)) (rises (put k v rest))
        (before-put other k v rest (greater-turned k other e) (both-true (is_before other rest) (rises rest) r).0) later

-- what stands before a key stands before all behind it
before-rest : (m l w : Term) (rest : Pairs) → less m l ≡ true → is_before l rest ≡ true → is_before m rest ≡ true
before-rest m l w Empty e f = refl
before-rest m l w (Pair n x rest) e f = less-chain m l n e f

absent : (k : Term) (ps : Pairs) → is_before k ps ≡ true → rises ps ≡ true → value_at k ps ≡ std.None
absent k Empty b r = refl
absent k (Pair l w rest) b r =
    let parts = both-true (is_before l rest) (rises rest) r in
    ap (λ t. if t then Some w else value_at k rest) (less-other k l b) ∙ absent k rest (before-rest k l w rest b parts.0) parts.1

before-remove : (m k : Term) (ps : Pairs) → is_before m ps ≡ true → rises ps ≡ true → is_before m (remove k ps) ≡ true
before-remove m k Empty b r = refl
before-remove m k (Pair l w rest) b r = go (equal k l)
  where
    go : (t : Bool) → is_before m (if t then rest else Pair l w (remove k rest)) ≡ true
    go true = before-rest m l w rest b (both-true (is_before l rest) (rises rest) r).0
    go false = b

remove-rises : (k : Term) (ps : Pairs) → rises ps ≡ true → rises (remove k ps) ≡ true
remove-rises k Empty r = refl
remove-rises k (Pair l w rest) r =
    let parts = both-true (is_before l rest) (rises rest) r in
    go (equal k l) parts.1 (and-true (is_before l (remove k rest)) (rises (remove k rest)) (before-remove l k rest parts.0 parts.1) (remove-rises k rest parts.1))
  where
    go : (t : Bool) → rises rest ≡ true → rises (Pair l w (remove k rest)) ≡ true → rises (if t then rest else Pair l w (remove k rest)) ≡ true
    go true here later = here
    go false here later = later

remove-at : (k l : Term) (ps : Pairs) → rises ps ≡ true → value_at l (remove k ps) ≡ (if equal l k then std.None else value_at l ps)
remove-at k l Empty r = go (equal l k)
  where
    none : Option Term
    none = std.None

    go : (t : Bool) → none ≡ (if t then none else none)
    go true = refl
    go false = refl
remove-at k l (Pair m w rest) r =
    let parts = both-true (is_before m rest) (rises rest) r in
    go (equal k m) refl (absent m rest parts.0 parts.1) (remove-at k l rest parts.1)
  where
    go : (t : Bool) → equal k m ≡ t → value_at m rest ≡ std.None → value_at l (remove k rest) ≡ (if equal l k then std.None else value_at l rest)
        → value_at l (if t then rest else Pair m w (remove k rest)) ≡ (if equal l k then std.None else value_at l (Pair m w rest))
    go true e none later = subst (λ n. value_at l rest ≡ (if equal l n then std.None else value_at l (Pair m w rest))) (sym (equal-terms k m e)) (here (equal l m) refl)
      where
        here : (t : Bool) → equal l m ≡ t → value_at l rest ≡ (if t then std.None else (if t then Some w else value_at l rest))
        here true f = subst (λ n. value_at n rest ≡ std.None) (sym (equal-terms l m f)) none
        here false f = refl
    go false e none later =
        ap (λ x. if equal l m then Some w else x) later
        ∙ either-order (equal l m) (equal l k) (Some w) std.None (value_at l rest) (λ h. apart (equal l k) refl h)
      where
        apart : (t : Bool) → equal l k ≡ t → equal l m ≡ true → t ≡ false
        apart true f h =
            let same_key : k ≡ m = sym (equal-terms l k f) ∙ equal-terms l m h in
            absurd (true≢false (sym (subst (λ n. equal k n ≡ true) same_key (equal-itself k)) ∙ e))
        apart false f h = refl

head-at : (k v : Term) (ps : Pairs) → value_at k (Pair k v ps) ≡ Some v
head-at k v ps = ap (λ t. if t then Some v else value_at k ps) (equal-itself k)

-- of pairs with one first key, the values and what the others hold
behind-first : (k v w : Term) (ps qs : Pairs) → rises (Pair k v ps) ≡ true → rises (Pair k w qs) ≡ true
    → ((m : Term) → value_at m (Pair k v ps) ≡ value_at m (Pair k w qs)) → (v ≡ w) × ((m : Term) → value_at m ps ≡ value_at m qs)
behind-first k v w ps qs r s e = (unsome v w (sym (head-at k v ps) ∙ e k ∙ head-at k w qs), λ m. go m (equal m k) refl)
  where
    go : (m : Term) (t : Bool) → equal m k ≡ t → value_at m ps ≡ value_at m qs
    go m true f =
        let left = both-true (is_before k ps) (rises ps) r in
        let right = both-true (is_before k qs) (rises qs) s in
        subst (λ n. value_at n ps ≡ value_at n qs) (sym (equal-terms m k f)) (absent k ps left.0 left.1 ∙ sym (absent k qs right.0 right.1))
    go m false f = sym (ap (λ t. if t then Some v else value_at m ps) f) ∙ e m ∙ ap (λ t. if t then Some w else value_at m qs) f

same : (ps qs : Pairs) → rises ps ≡ true → rises qs ≡ true → ((k : Term) → value_at k ps ≡ value_at k qs) → ps ≡ qs
same Empty Empty r s e = refl
same Empty (Pair l w qs) r s e = absurd (none-some w (e l ∙ head-at l w qs))
same (Pair k v ps) Empty r s e = absurd (none-some v (sym (e k) ∙ head-at k v ps))
same (Pair k v ps) (Pair l w qs) r s e = go (compare k l) refl (same ps qs (both-true (is_before k ps) (rises ps) r).1 (both-true (is_before l qs) (rises qs) s).1)
  where
    go : (o : Ordering) → compare k l ≡ o → (((m : Term) → value_at m ps ≡ value_at m qs) → ps ≡ qs) → Pair k v ps ≡ Pair l w qs
    go Less f later = absurd (none-some v (sym (absent k (Pair l w qs) (ap is_lt f) s) ∙ sym (e k) ∙ head-at k v ps))
    go Equal f later =
        let same_key = (order-exact k l).0 f in
        let parts =
        behind-first k v w ps qs r (subst (λ n. rises (Pair n w qs) ≡ true) (sym same_key) s) (subst (λ n. (m : Term) → value_at m (Pair k v ps) ≡ value_at m (Pair n w qs)) (sym same_key) e)
        in
        let same_value = parts.0 in
        let same_rest = later parts.1 in
        cc
    go Greater f later = absurd (none-some w (sym (absent l (Pair k v ps) (greater-turned k l f) r) ∙ e l ∙ head-at l w qs))

pub laws : AreMaps
laws = record { put_rises = put-rises; put_at = put-at; remove_rises = remove-rises; remove_at = remove-at; same = same }
