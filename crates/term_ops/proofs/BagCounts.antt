-- Counts of terms by their places among keys that rise.
use Rattle.std.proofs.Common.{◌≡◌, ◌⊎◌, inl, inr, ℕ, zero, suc, ◌+◌, ◌-◌, ◌<◌, ◌≤◌, Bool, true, false, if◌then◌else◌, List, [], ◌∷◌, length, map, replicate, get_or, Some, is_some, refl, sym, ap, subst, ◌∙◌, arith, true≢false, is_eq}
use Rattle.std.specs.List.{slice_set}
use Rattle.std.specs.declared.cmp.Ordering.{Ordering}
use Rattle.std.specs.declared.cmp.Ordering.TheVariants.{Less, Equal, Greater}
use Rattle.ej_term.specs.Term.{Term, Pairs, Empty, Pair}
use Rattle.ej_term.specs.Order.{compare}
use Rattle.ej_term.specs.Tests.{equal}
use Rattle.ej_term.specs.Maps.{put, put_each, value_at, rises, keys, values}
use Rattle.ej_term.proofs.MapLaws.{laws, equal-terms, equal-itself}
use Rattle.ej_term.proofs.OrderLaws.{compare-itself}
use Rattle.term_heap.specs.Entries.{pairs}
use Rattle.term_heap.specs.Entries.{twice}
use Rattle.term_heap.proofs.Putting.{greater, lesser, same-key, put_each-rises}
use Rattle.term_ops.specs.Bags.{held, more, less, Among, UpTo}
use Rattle.term_ops.specs.SortedPlaces.{at, Ascending, Goes, Found, Missing}
use Rattle.term_ops.proofs.SortedPlacing.{ascending}

sides : (i p : ℕ) → (i < p) ⊎ (p ≤ i)
sides i zero = inr (omega arith)
sides zero (suc p) = inl (omega arith)
sides (suc i) (suc p) = up (sides i p)
  where
    up : (i < p) ⊎ (p ≤ i) → (suc i < suc p) ⊎ (suc p ≤ suc i)
    up (inl h) = inl (omega (arith, h))
    up (inr h) = inr (omega (arith, h))

differs : (k t : Term) → compare t k ≡ Greater → equal k t ≡ false
differs k t e = ap is_eq (lesser t k e)

-- the count of a term that was found, and of one that is missing
pub held-found : (t : Term) (ks : List Term) (cs : List ℕ) (p : ℕ) → length ks ≡ length cs → p < length ks → compare t (at ks p) ≡ Equal → Goes Greater t ks 0 p → held ks cs t ≡ get_or cs p 0
held-found t [] cs p same within e before = absurd (omega (arith, within))
held-found t (k ∷ ks) [] p same within e before = absurd (omega (arith, same))
held-found t (k ∷ ks) (c ∷ cs) zero same within e before = ap (λ b. if b then c else held ks cs t) (ap (λ (x : Term). equal x t) (sym (same-key t k e)) ∙ equal-itself t)
held-found t (k ∷ ks) (c ∷ cs) (suc p) same within e before =
    ap (λ b. if b then c else held ks cs t) (differs k t (before zero (omega arith) (omega arith)))
    ∙ held-found t ks cs p (omega (arith, same)) (omega (arith, within)) e (λ i h l. before (suc i) (omega arith) (omega (arith, l)))

held-none : (t : Term) (ks : List Term) (cs : List ℕ) → ((i : ℕ) → i < length ks → equal (at ks i) t ≡ false) → held ks cs t ≡ 0
held-none t [] cs none = refl
held-none t (k ∷ ks) [] none = refl
held-none t (k ∷ ks) (c ∷ cs) none = ap (λ b. if b then c else held ks cs t) (none zero (omega arith)) ∙ held-none t ks cs (λ i l. none (suc i) (omega (arith, l)))

pub held-missing : (t : Term) (ks : List Term) (cs : List ℕ) (p : ℕ) → Missing t ks p → held ks cs t ≡ 0
held-missing t ks cs p missing = held-none t ks cs (λ i l. go i l (sides i p))
  where
    go : (i : ℕ) → i < length ks → (i < p) ⊎ (p ≤ i) → equal (at ks i) t ≡ false
    go i l (inl front) = differs (at ks i) t (missing.before i (omega arith) front)
    go i l (inr behind) = ap is_eq (greater t (at ks i) (missing.behind i behind l))

-- one test or the other
either-first : (p q : Bool) (x y z : ℕ) → (p ≡ true → q ≡ false) → (if p then x else (if q then y else z)) ≡ (if q then y else (if p then x else z))
either-first true true x y z apart = absurd (true≢false (apart refl))
either-first true false x y z apart = refl
either-first false q x y z apart = refl

-- another count at the place of a term
pub held-set : (t : Term) (ks : List Term) (cs : List ℕ) (p n : ℕ) → length ks ≡ length cs → p < length ks → compare t (at ks p) ≡ Equal → Goes Greater t ks 0 p → (u : Term) → held ks (slice_set cs p n) u ≡ (if equal t u then n else held ks cs u)
held-set t [] cs p n same within e before u = absurd (omega (arith, within))
held-set t (k ∷ ks) [] p n same within e before u = absurd (omega (arith, same))
held-set t (k ∷ ks) (c ∷ cs) zero n same within e before u =
    ap (λ b. if b then n else held ks cs u) (ap (λ (x : Term). equal x u) (sym (same-key t k e)))
    ∙ go (equal t u) refl
  where
    go : (b : Bool) → equal t u ≡ b → (if b then n else held ks cs u) ≡ (if b then n else held (k ∷ ks) (c ∷ cs) u)
    go true is = refl
    go false is = sym (ap (λ d. if d then c else held ks cs u) (ap (λ (x : Term). equal x u) (sym (same-key t k e)) ∙ is))
held-set t (k ∷ ks) (c ∷ cs) (suc p) n same within e before u =
    ap (λ m. if equal k u then c else m) (held-set t ks cs p n (omega (arith, same)) (omega (arith, within)) e (λ i h l. before (suc i) (omega arith) (omega (arith, l))) u)
    ∙ either-first (equal k u) (equal t u) c n (held ks cs u) (λ is. apart is (equal t u) refl)
  where
    apart : equal k u ≡ true → (b : Bool) → equal t u ≡ b → b ≡ false
    apart is true same = absurd (true≢false (sym (equal-itself t) ∙ ap (λ (x : Term). equal x t) (equal-terms t u same ∙ sym (equal-terms k u is)) ∙ differs k t (before zero (omega arith) (omega arith))))
    apart is false same = refl

-- one more of a term that is among the keys
pub one-more : (t : Term) (ks : List Term) (cs new : List ℕ) (p : ℕ) → length ks ≡ length cs → Found t ks p → new ≡ slice_set cs p (get_or cs p 0 + 1) → (u : Term) → held ks new u ≡ more (held ks cs) t u
one-more t ks cs new p same found is u =
    ap (λ (ds : List ℕ). held ks ds u) is
    ∙ held-set t ks cs p (get_or cs p 0 + 1) same found.within found.equal found.before u
    ∙ go (equal t u) refl
  where
    go : (b : Bool) → equal t u ≡ b → (if b then get_or cs p 0 + 1 else held ks cs u) ≡ (if b then suc (held ks cs u) else held ks cs u)
    go true same_term =
        let here : held ks cs u ≡ get_or cs p 0 = ap (held ks cs) (sym (equal-terms t u same_term)) ∙ held-found t ks cs p same found.within found.equal found.before in
        omega (arith, here)
    go false differ = refl

-- one less of it
pub one-less : (t : Term) (ks : List Term) (cs new : List ℕ) (p : ℕ) → length ks ≡ length cs → Found t ks p → new ≡ slice_set cs p (get_or cs p 0 - 1) → (u : Term) → held ks new u ≡ less (held ks cs) t u
one-less t ks cs new p same found is u =
    ap (λ (ds : List ℕ). held ks ds u) is
    ∙ held-set t ks cs p (get_or cs p 0 - 1) same found.within found.equal found.before u
    ∙ go (equal t u) refl
  where
    go : (b : Bool) → equal t u ≡ b → (if b then get_or cs p 0 - 1 else held ks cs u) ≡ (if b then held ks cs u - 1 else held ks cs u)
    go true same_term = ap (λ n. n - 1) (sym (ap (held ks cs) (sym (equal-terms t u same_term)) ∙ held-found t ks cs p same found.within found.equal found.before))
    go false differ = refl

-- what is among the keys is not missing
pub not-missing : (t : Term) (ks : List Term) (p : ℕ) → Among t ks → Missing t ks p → ⊥
not-missing t ks p among missing = go (sides among.place p)
  where
    same : (o : Ordering) → compare t (at ks among.place) ≡ o → o ≡ Equal
    same o e = sym e ∙ ap (compare t) among.is ∙ compare-itself t

    go : (among.place < p) ⊎ (p ≤ among.place) → ⊥
    go (inl front) = apart-greater (same Greater (missing.before among.place (omega arith) front))
      where
        apart-greater : Greater ≡ Equal → ⊥
        apart-greater e = cc
    go (inr behind) = apart-less (same Less (missing.behind among.place behind among.within))
      where
        apart-less : Less ≡ Equal → ⊥
        apart-less e = cc

-- the bound of the counts
pub set-up-to : (cs new : List ℕ) (p most : ℕ) → new ≡ slice_set cs p (get_or cs p 0 + 1) → UpTo most cs → UpTo (most + 1) new
set-up-to cs new p most is bound i = subst (λ (ds : List ℕ). get_or ds i 0 ≤ most + 1) (sym is) (go cs p i (bound p) (bound i))
  where
    go : (ds : List ℕ) (q i : ℕ) → get_or cs p 0 ≤ most → get_or ds i 0 ≤ most → get_or (slice_set ds q (get_or cs p 0 + 1)) i 0 ≤ most + 1
    go [] q i h l = omega arith
    go (d ∷ ds) zero zero h l = omega (arith, h)
    go (d ∷ ds) zero (suc i) h l = omega (arith, l)
    go (d ∷ ds) (suc q) zero h l = omega (arith, l)
    go (d ∷ ds) (suc q) (suc i) h l = go ds q i h l

pub zeros : (n i : ℕ) → ◌≡◌ {A = ℕ} (get_or (replicate n 0) i 0) 0
zeros zero i = refl
zeros (suc n) zero = refl
zeros (suc n) (suc i) = zeros n i

pub held-zeros : (ks : List Term) (n : ℕ) (t : Term) → held ks (replicate n 0) t ≡ 0
held-zeros [] n t = refl
held-zeros (k ∷ ks) zero t = refl
held-zeros (k ∷ ks) (suc n) t = go (equal k t) (held-zeros ks n t)
  where
    go : (b : Bool) → held ks (replicate n 0) t ≡ 0 → (if b then 0 else held ks (replicate n 0) t) ≡ 0
    go true later = refl
    go false later = later

-- the keys of a map rise, and each that was put is among them
pairs-itself : (ps : Pairs) → pairs (keys ps) (values ps) ≡ ps
pairs-itself Empty = refl
pairs-itself (Pair k v rest) = ap (Pair k v) (pairs-itself rest)

same-count : (ps : Pairs) → length (keys ps) ≡ length (values ps)
same-count Empty = refl
same-count (Pair k v rest) = ap suc (same-count rest)

pub keys-ascend : (es : List (Term × Term)) → Ascending (keys (put_each Empty es))
keys-ascend es =
    let ps = put_each Empty es in
    ascending (keys ps) (values ps) (same-count ps) (ap rises (pairs-itself ps) ∙ put_each-rises Empty es refl)

has-put : (k v t : Term) (ps : Pairs) → is_some (value_at t ps) ≡ true → is_some (value_at t (put k v ps)) ≡ true
has-put k v t ps has = ap is_some (laws.put_at k v t ps) ∙ go (equal t k)
  where
    go : (b : Bool) → is_some (if b then Some v else value_at t ps) ≡ true
    go true = refl
    go false = has

has-put_each : (t : Term) (ps : Pairs) (es : List (Term × Term)) → is_some (value_at t ps) ≡ true → is_some (value_at t (put_each ps es)) ≡ true
has-put_each t ps [] has = has
has-put_each t ps (e ∷ es) has = has-put_each t (put e.0 e.1 ps) es (has-put e.0 e.1 t ps has)

has-each : (ts : List Term) (ps : Pairs) (i : ℕ) → i < length ts → is_some (value_at (at ts i) (put_each ps (map twice ts))) ≡ true
has-each [] ps i within = absurd (omega (arith, within))
has-each (t ∷ ts) ps zero within = has-put_each t (put t t ps) (map twice ts) (ap is_some (laws.put_at t t t ps) ∙ ap (λ b. is_some (if b then Some t else value_at t ps)) (equal-itself t))
has-each (t ∷ ts) ps (suc i) within = has-each ts (put t t ps) i (omega (arith, within))

among-keys : (t : Term) (ps : Pairs) → is_some (value_at t ps) ≡ true → Among t (keys ps)
among-keys t Empty has = absurd (true≢false (sym has))
among-keys t (Pair k v rest) has = go (equal t k) refl has (among-keys t rest)
  where
    go : (b : Bool) → equal t k ≡ b → is_some (if b then Some v else value_at t rest) ≡ true → (is_some (value_at t rest) ≡ true → Among t (keys rest)) → Among t (k ∷ keys rest)
    go true is has later = record { place = 0; within = omega arith; is = sym (equal-terms t k is) }
    go false is has later = let a = later has in let inside = a.within in record { place = suc a.place; within = omega (arith, inside); is = a.is }

pub each-among : (ts : List Term) (i : ℕ) → i < length ts → Among (at ts i) (keys (put_each Empty (map twice ts)))
each-among ts i within = among-keys (at ts i) (put_each Empty (map twice ts)) (has-each ts Empty i within)
