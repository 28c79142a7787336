-- The place of a key among those of a map.
use Rattle.std.proofs.Common.{◌≡◌, ◌⊎◌, inl, inr, ℕ, zero, suc, ◌+◌, ◌<◌, Bool, true, false, ◌&&◌, List, [], ◌∷◌, length, get_or, refl, sym, ap, subst, ◌∙◌, arith, true≢false, is_lt}
use Rattle.std.specs.declared.cmp.Ordering.{Ordering}
use Rattle.std.specs.declared.cmp.Ordering.TheVariants.{Less, Equal, Greater}
use Rattle.std.proofs.lemmas.List.{length-map}
use Rattle.std.proofs.Math.Nat.{eq-or-lt_of_le}
use Rattle.ej_term.specs.Term.{Term}
use Rattle.ej_term.specs.Order.{compare}
use Rattle.ej_term.specs.Tests.{less}
use Rattle.ej_term.specs.Maps.{is_before, rises}
use Rattle.ej_term.proofs.OrderLaws.{compare-total}
use Rattle.term_heap.specs.Entries.{pairs}
use Rattle.term_heap.proofs.Putting.{greater, lesser, same-key}
use Rattle.term_heap.specs.declared.cell.TermId.{TermId}
use Rattle.term_heap.specs.declared.heap.Heap.{Heap}
use Rattle.term_heap.specs.View.{term_of}
use Rattle.term_heap.specs.Held.{terms_at}
use Rattle.term_ops.specs.SortedPlaces.{at, Ascending, Goes, Found}

pub is-less : (o : Ordering) → is_lt o ≡ true → o ≡ Less
is-less Less e = refl
is-less Equal e = absurd (true≢false (sym e))
is-less Greater e = absurd (true≢false (sym e))

pub both-true : (a b : Bool) → a && b ≡ true → (a ≡ true) × (b ≡ true)
both-true true b e = (refl, e)
both-true false b e = absurd (true≢false (sym e))

pub and-true : (a b : Bool) → a ≡ true → b ≡ true → a && b ≡ true
and-true a b e f = ap (λ c. c && b) e ∙ f

-- keys that rise stand in their order
pub ascending : (ks vs : List Term) → length ks ≡ length vs → rises (pairs ks vs) ≡ true → Ascending ks
ascending [] vs same r i j h l = absurd (omega (arith, l))
ascending (k ∷ ks) [] same r i j h l = absurd (omega (arith, same))
ascending (k ∷ ks) (v ∷ vs) same r (suc i) (suc j) h l = ascending ks vs (omega (arith, same)) (both-true (is_before k (pairs ks vs)) (rises (pairs ks vs)) r).1 i j (omega (arith, h)) (omega (arith, l))
ascending (k ∷ ks) (v ∷ vs) same r i zero h l = absurd (omega (arith, h))
ascending (k ∷ []) (v ∷ vs) same r zero (suc j) h l = absurd (omega (arith, l))
ascending (k ∷ n ∷ ks) (v ∷ []) same r zero (suc j) h l = absurd (omega (arith, same))
ascending (k ∷ n ∷ ks) (v ∷ w ∷ vs) same r zero (suc zero) h l = is-less (compare k n) (both-true (less k n) (rises (pairs (n ∷ ks) (w ∷ vs))) r).0
ascending (k ∷ n ∷ ks) (v ∷ w ∷ vs) same r zero (suc (suc j)) h l =
    let parts = both-true (less k n) (rises (pairs (n ∷ ks) (w ∷ vs))) r in
    compare-total.trans k n (at ks j) (is-less (compare k n) parts.0) (ascending (n ∷ ks) (w ∷ vs) (omega (arith, same)) parts.1 zero (suc j) (omega arith) (omega (arith, l)))

-- steps of the search
pub below : (key : Term) (ks : List Term) (m : ℕ) → Ascending ks → compare key (at ks m) ≡ Less → Goes Less key ks m (length ks)
below key ks m rise e i h l = go (eq-or-lt_of_le h)
  where
    go : (m ≡ i) ⊎ (m < i) → compare key (at ks i) ≡ Less
    go (inl same) = subst (λ n. compare key (at ks n) ≡ Less) same e
    go (inr under) = compare-total.trans key (at ks m) (at ks i) e (rise m i under l)

pub above-before : (key : Term) (ks : List Term) (m : ℕ) → m < length ks → Ascending ks → compare (at ks m) key ≡ Less → Goes Greater key ks 0 m
above-before key ks m within rise e i h l = greater (at ks i) key (compare-total.trans (at ks i) (at ks m) key (rise i m l within) e)

pub above : (key : Term) (ks : List Term) (m : ℕ) → m < length ks → Ascending ks → compare key (at ks m) ≡ Greater → Goes Greater key ks 0 (m + 1)
above key ks m within rise e i h l = go (eq-or-lt_of_le (omega (arith, l)))
  where
    go : (i ≡ m) ⊎ (i < m) → compare key (at ks i) ≡ Greater
    go (inl same) = subst (λ n. compare key (at ks n) ≡ Greater) (sym same) e
    go (inr under) = above-before key ks m within rise (lesser key (at ks m) e) i h under

pub found : (key : Term) (ks : List Term) (m : ℕ) → m < length ks → Ascending ks → compare key (at ks m) ≡ Equal → Found key ks m
found key ks m within rise e = record {
  within = within;
  equal = e;
  before = λ i h l. greater (at ks i) key (subst (λ (k : Term). compare (at ks i) k ≡ Less) (sym (same-key key (at ks m) e)) (rise i m l within));
}

-- the term of an id at a place
pub at-ids : (heap : Heap) (ids : List TermId) (m : ℕ) (d : TermId) → m < length ids → at (terms_at heap ids) m ≡ term_of heap (get_or ids m d)
at-ids heap [] m d within = absurd (omega (arith, within))
at-ids heap (id ∷ ids) zero d within = refl
at-ids heap (id ∷ ids) (suc m) d within = at-ids heap ids m d (omega (arith, within))

-- what a comparison with the key in the middle tells
module _ (heap : Heap) (ids : List TermId) (m : ℕ) (d : TermId) (key : Term) (o : Ordering) (within : m < length ids) (rise : Ascending (terms_at heap ids)) (e : o ≡ compare key (term_of heap (get_or ids m d))) where
  inside : m < length (terms_at heap ids)
  inside = subst (λ n. m < n) (sym (length-map ids (term_of heap))) within

  compared : (q : Ordering) → o ≡ q → compare key (at (terms_at heap ids) m) ≡ q
  compared q is = ap (compare key) (at-ids heap ids m d within) ∙ sym e ∙ is

  pub less-here : o ≡ Less → Goes Less key (terms_at heap ids) m (length ids)
  less-here is i h l = below key (terms_at heap ids) m rise (compared Less is) i h (subst (λ n. i < n) (sym (length-map ids (term_of heap))) l)

  pub equal-here : o ≡ Equal → Found key (terms_at heap ids) m
  equal-here is = found key (terms_at heap ids) m inside rise (compared Equal is)

  pub greater-here : o ≡ Greater → Goes Greater key (terms_at heap ids) 0 (m + 1)
  greater-here is = above key (terms_at heap ids) m inside rise (compared Greater is)
