-- Steps of counting terms, and of taking them out.
use Rattle.std.proofs.Common.{◌≡◌, ℕ, zero, suc, ◌+◌, ◌-◌, ◌<◌, ◌≤◌, Bool, true, false, if◌then◌else◌, nat_eq, List, [], ◌∷◌, length, map, replicate, drop, get_or, Result, Ok, Err, refl, sym, ap, subst, ◌∙◌, arith, drop-cons}
use Rattle.std.specs.List.{slice_set}
use Rattle.std.proofs.lemmas.List.{length-map}
use Rattle.std.proofs.lemmas.Bool.Decides.{nat_tests}
use Rattle.ej_term.specs.Term.{Term, Empty}
use Rattle.ej_term.specs.Tests.{equal}
use Rattle.ej_term.specs.Maps as maps
use Rattle.ej_term.specs.Maps.{put_each}
use Rattle.term_heap.specs.declared.cell.TermId.{TermId}
use Rattle.term_heap.specs.declared.heap.Heap.{Heap}
use Rattle.term_heap.specs.View.{term_of}
use Rattle.term_heap.specs.Held.{terms_at}
use Rattle.term_heap.specs.Entries.{twice}
use Rattle.term_ops.specs.Bags.{held, how_many, more, Taken, Among, UpTo}
use Rattle.term_ops.specs.SortedPlaces.{Ascending, Found, IsPlace}
use Rattle.term_ops.proofs.SortedPlacing.{at-ids}
use Rattle.term_ops.proofs.BagCounts.{held-found, held-missing, one-more, one-less, not-missing, zeros, held-zeros, keys-ascend, each-among}

default-same : (xs : List ℕ) (p d e : ℕ) → p < length xs → get_or xs p d ≡ get_or xs p e
default-same [] p d e within = absurd (omega (arith, within))
default-same (x ∷ xs) zero d e within = refl
default-same (x ∷ xs) (suc p) d e within = default-same xs p d e (omega (arith, within))

-- a search among the keys of a bag
module _ (heap : Heap) (keys : List TermId) (counts : List ℕ) (t : Term) (r : Result ℕ ℕ) (p : ℕ) (same : length keys ≡ length counts) (place : IsPlace t (terms_at heap keys) r) where
  as_many : length (terms_at heap keys) ≡ length counts
  as_many = length-map keys (term_of heap) ∙ same

  there : r ≡ Ok p → Found t (terms_at heap keys) p
  there is = subst (λ (q : Result ℕ ℕ). IsPlace t (terms_at heap keys) q) is place

  count-here : (v : ℕ) → r ≡ Ok p → v ≡ get_or counts p v → get_or counts p 0 ≡ v
  count-here v is read = default-same counts p 0 v (subst (λ n. p < n) as_many (there is).within) ∙ sym read

  held-here : (v : ℕ) → r ≡ Ok p → v ≡ get_or counts p v → held (terms_at heap keys) counts t ≡ v
  held-here v is read = held-found t (terms_at heap keys) counts p as_many (there is).within (there is).equal (there is).before ∙ count-here v is read

  pub add-here : (v : ℕ) (new : List ℕ) → r ≡ Ok p → v ≡ get_or counts p v → new ≡ slice_set counts p (v + 1) → (u : Term) → held (terms_at heap keys) new u ≡ more (held (terms_at heap keys) counts) t u
  add-here v new is read set u = one-more t (terms_at heap keys) counts new p as_many (there is) (set ∙ ap (λ n. slice_set counts p (n + 1)) (sym (count-here v is read))) u

  pub must-be-here : Among t (terms_at heap keys) → r ≡ Err p → ⊥
  must-be-here among is = not-missing t (terms_at heap keys) p among (subst (λ (q : Result ℕ ℕ). IsPlace t (terms_at heap keys) q) is place)

  pub none-left : (v : ℕ) → r ≡ Ok p → v ≡ get_or counts p v → v ≡ 0 → Taken (held (terms_at heap keys) counts) (held (terms_at heap keys) counts) t false
  none-left v is read none = (ap (λ n. nat_eq n 0) (held-here v is read ∙ none), λ u. refl)

  pub none-here : r ≡ Err p → Taken (held (terms_at heap keys) counts) (held (terms_at heap keys) counts) t false
  none-here is = (ap (λ n. nat_eq n 0) (held-missing t (terms_at heap keys) counts p (subst (λ (q : Result ℕ ℕ). IsPlace t (terms_at heap keys) q) is place)), λ u. refl)

  pub one-taken : (v w : ℕ) (new : List ℕ) → r ≡ Ok p → v ≡ get_or counts p v → 0 < v → w ≡ get_or counts p w → new ≡ slice_set counts p (w - 1) → Taken (held (terms_at heap keys) counts) (held (terms_at heap keys) new) t true
  one-taken v w new is read some again set = (
    ap (λ n. nat_eq n 0) (held-here v is read) ∙ positive v some,
    one-less t (terms_at heap keys) counts new p as_many (there is) (set ∙ ap (λ n. slice_set counts p (n - 1)) (sym (count-here w is again))),
  )
    where
      positive : (n : ℕ) → 0 < n → nat_eq n 0 ≡ false
      positive n h = grind (arith, nat_tests, h)

-- before the first is counted
pub none-counted : (heap : Heap) (keys ids : List TermId) (counts : List ℕ) (n : ℕ) → counts ≡ replicate n 0
    → UpTo 0 counts × ((t : Term) → held (terms_at heap keys) counts t + how_many (terms_at heap ids) t ≡ how_many (terms_at heap ids) t)
none-counted heap keys ids counts n is = (
  λ i. subst (λ (cs : List ℕ). get_or cs i 0 ≤ 0) (sym is) (let z = zeros n i in omega (arith, z)),
  λ t. ap (λ (cs : List ℕ). held (terms_at heap keys) cs t + how_many (terms_at heap ids) t) is ∙ (let z = held-zeros (terms_at heap keys) n t in omega (arith, z)),
)

-- one more is counted
pub counts-on : (heap : Heap) (ids : List TermId) (k : ℕ) (d : TermId) (old new : Term → ℕ) (all : Term → ℕ) → k < length ids → ((t : Term) → new t ≡ more old (term_of heap (get_or ids k d)) t)
    → ((t : Term) → old t + how_many (terms_at heap (drop k ids)) t ≡ all t) → (t : Term) → new t + how_many (terms_at heap (drop (k + 1) ids)) t ≡ all t
counts-on heap ids k d old new all within is so_far t =
    let next : suc k ≡ k + 1 = omega arith in
    let x = term_of heap (get_or ids k d) in
    let rest = how_many (terms_at heap (drop (k + 1) ids)) t in
    ap (λ n. n + rest) (is t) ∙ go x rest (equal x t)
    ∙ ap (λ n. old t + how_many (x ∷ terms_at heap (drop n ids)) t) (sym next)
    ∙ ap (λ (zs : List TermId). old t + how_many (terms_at heap zs) t) (sym (drop-cons ids k d within))
    ∙ so_far t
  where
    go : (x : Term) (rest : ℕ) (b : Bool) → (if b then suc (old t) else old t) + rest ≡ old t + (if b then suc rest else rest)
    go x rest true = omega arith
    go x rest false = refl

-- the keys of a bag
pub bag-ascends : (heap : Heap) (keys : List TermId) (ts : List Term) → terms_at heap keys ≡ maps.keys (put_each Empty (map twice ts)) → Ascending (terms_at heap keys)
bag-ascends heap keys ts is = subst (λ (ks : List Term). Ascending ks) (sym is) (keys-ascend (map twice ts))

pub bag-among : (heap : Heap) (keys ids : List TermId) → terms_at heap keys ≡ maps.keys (put_each Empty (map twice (terms_at heap ids))) → (i : ℕ) → i < length ids → (d : TermId) → Among (term_of heap (get_or ids i d)) (terms_at heap keys)
bag-among heap keys ids is i within d =
    subst (λ (ks : List Term). Among (term_of heap (get_or ids i d)) ks) (sym is)
    (subst (λ (t : Term). Among t (maps.keys (put_each Empty (map twice (terms_at heap ids))))) (at-ids heap ids i d within) (each-among (terms_at heap ids) i (subst (λ n. i < n) (sym (length-map ids (term_of heap))) within)))
