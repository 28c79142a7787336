-- Taking out the first equal of each of some terms is sifting by a bag of them.
use Rattle.std.proofs.Common.{◌≡◌, ℕ, suc, ◌+◌, ◌-◌, ◌<◌, ◌≤◌, Bool, true, false, if◌then◌else◌, nat_eq, List, [], ◌∷◌, ◌++◌, length, drop, get_or, drop-cons, refl, sym, ap, ap₂, subst, ◌∙◌, true≢false, arith}
use Rattle.std.proofs.lemmas.Bool.Decides.{nat_tests}
use Rattle.std.proofs.lemmas.List.{map-append, append_assoc, append-nil}
use Rattle.std.proofs.Math.ListN.{drop_of_length-le}
use Rattle.ej_term.specs.Term.{Term}
use Rattle.ej_term.specs.Tests.{equal}
use Rattle.ej_term.specs.Lists.{without, without_each}
use Rattle.ej_term.proofs.MapLaws.{equal-terms, equal-itself}
use Rattle.term_heap.specs.declared.cell.TermId.{TermId}
use Rattle.term_heap.specs.declared.heap.Heap.{Heap}
use Rattle.term_heap.specs.View.{term_of}
use Rattle.term_heap.specs.Held.{terms_at}
use Rattle.term_ops.specs.Bags.{how_many, more, less, sifted, Taken}

less-same : (b c : Term → ℕ) (x : Term) → ((t : Term) → b t ≡ c t) → (t : Term) → less b x t ≡ less c x t
less-same b c x same t = ap (λ n. if equal x t then n - 1 else n) (same t)

pub sifted-same : (xs : List Term) (b c : Term → ℕ) → ((t : Term) → b t ≡ c t) → sifted xs b ≡ sifted xs c
sifted-same [] b c same = refl
sifted-same (x ∷ xs) b c same =
    ap (λ n. if nat_eq n 0 then x ∷ sifted xs b else sifted xs (less b x)) (same x)
    ∙ ap₂ (λ (ys zs : List Term). if nat_eq (c x) 0 then x ∷ ys else zs) (sifted-same xs b c same) (sifted-same xs (less b x) (less c x) (less-same b c x same))

-- one more and then one less of a term
less-more : (b : Term → ℕ) (x : Term) (t : Term) → less (more b x) x t ≡ b t
less-more b x t = go (equal x t)
  where
    go : (e : Bool) → (if e then (if e then suc (b t) else b t) - 1 else (if e then suc (b t) else b t)) ≡ b t
    go true = omega arith
    go false = refl

-- of two terms that differ
apart : (x o t : Term) → equal x o ≡ false → equal x t ≡ true → equal o t ≡ false
apart x o t differ same = go (equal o t) refl
  where
    go : (e : Bool) → equal o t ≡ e → e ≡ false
    go true is = absurd (true≢false (sym (equal-itself o) ∙ ap (λ (u : Term). equal u o) (equal-terms o t is ∙ sym (equal-terms x t same)) ∙ differ))
    go false is = refl

swapped : (b : Term → ℕ) (x o : Term) → equal x o ≡ false → (t : Term) → less (more b o) x t ≡ more (less b x) o t
swapped b x o differ t = go (equal x t) refl
  where
    go : (e : Bool) → equal x t ≡ e → (if e then (if equal o t then suc (b t) else b t) - 1 else (if equal o t then suc (b t) else b t)) ≡ (if equal o t then suc (if e then b t - 1 else b t) else (if e then b t - 1 else b t))
    go true is = ap (λ d. (if d then suc (b t) else b t) - 1) (apart x o t differ is) ∙ sym (ap (λ d. if d then suc (b t - 1) else b t - 1) (apart x o t differ is))
    go false is = refl

positive : (n : ℕ) → nat_eq (suc n) 0 ≡ false
positive n = grind (arith, nat_tests)

-- one more in the bag takes out the first that is equal to it
taking : (xs : List Term) (b : Term → ℕ) (o : Term) → sifted xs (more b o) ≡ sifted (without o xs) b
taking [] b o = refl
taking (x ∷ xs) b o = go (equal x o) refl (taking xs b o) (taking xs (less b x) o)
  where
    here : equal x o ≡ true → more b o x ≡ suc (b x)
    here is = ap (λ e. if e then suc (b x) else b x) (ap (equal o) (equal-terms x o is) ∙ equal-itself o)

    there : equal x o ≡ false → more b o x ≡ b x
    there is = ap (λ e. if e then suc (b x) else b x) (turned (equal o x) refl)
      where
        turned : (e : Bool) → equal o x ≡ e → e ≡ false
        turned true same = absurd (true≢false (sym (equal-itself x) ∙ ap (equal x) (sym (equal-terms o x same)) ∙ is))
        turned false same = refl

    go : (e : Bool) → equal x o ≡ e → sifted xs (more b o) ≡ sifted (without o xs) b → sifted xs (more (less b x) o) ≡ sifted (without o xs) (less b x)
        → (if nat_eq (more b o x) 0 then x ∷ sifted xs (more b o) else sifted xs (less (more b o) x)) ≡ sifted (if e then xs else x ∷ without o xs) b
    go true is kept gone =
        ap (λ n. if nat_eq n 0 then x ∷ sifted xs (more b o) else sifted xs (less (more b o) x)) (here is)
        ∙ ap (λ e. if e then x ∷ sifted xs (more b o) else sifted xs (less (more b o) x)) (positive (b x))
        ∙ sifted-same xs (less (more b o) x) b (λ t. ap (λ (u : Term). less (more b o) u t) (equal-terms x o is) ∙ less-more b o t)
    go false is kept gone =
        ap (λ n. if nat_eq n 0 then x ∷ sifted xs (more b o) else sifted xs (less (more b o) x)) (there is)
        ∙ ap₂ (λ (ys zs : List Term). if nat_eq (b x) 0 then x ∷ ys else zs) kept (sifted-same xs (less (more b o) x) (more (less b x) o) (swapped b x o is) ∙ gone)

empty : (xs : List Term) → sifted xs (how_many []) ≡ xs
empty [] = refl
empty (x ∷ xs) = ap (◌∷◌ x) (empty xs)

pub sifting : (xs os : List Term) → without_each xs os ≡ sifted xs (how_many os)
sifting xs [] = sym (empty xs)
sifting xs (o ∷ os) = sifting (without o xs) os ∙ sym (taking xs (how_many os) o)

-- a term that is taken out of the bag is left out, and another is kept
pub sifts-out : (t : Term) (ts : List Term) (old new : Term → ℕ) → Taken old new t true → sifted (t ∷ ts) old ≡ sifted ts new
sifts-out t ts old new taken = ap (λ b. if b then t ∷ sifted ts old else sifted ts (less old t)) taken.0 ∙ sym (sifted-same ts new (less old t) taken.1)

pub sifts-on : (t : Term) (ts : List Term) (old new : Term → ℕ) → Taken old new t false → sifted (t ∷ ts) old ≡ t ∷ sifted ts new
sifts-on t ts old new taken = ap (λ b. if b then t ∷ sifted ts old else sifted ts (less old t)) taken.0 ∙ ap (◌∷◌ t) (sym (sifted-same ts new old taken.1))

-- one more of the ids is sifted
module _ (heap : Heap) (ids : List TermId) (k : ℕ) (d : TermId) (old new : Term → ℕ) (left : List TermId) (all : List Term) (within : k < length ids)
    (so_far : terms_at heap left ++ sifted (terms_at heap (drop k ids)) old ≡ all) where
  split : terms_at heap (drop k ids) ≡ term_of heap (get_or ids k d) ∷ terms_at heap (drop (k + 1) ids)
  split =
      let next : suc k ≡ k + 1 = omega arith in
      ap (λ (zs : List TermId). terms_at heap zs) (drop-cons ids k d within) ∙ ap (λ n. term_of heap (get_or ids k d) ∷ terms_at heap (drop n ids)) next

  pub sift-out : (truth : Bool) → truth ≡ true → Taken old new (term_of heap (get_or ids k d)) truth → terms_at heap left ++ sifted (terms_at heap (drop (k + 1) ids)) new ≡ all
  sift-out truth is taken =
      ap (λ (ts : List Term). terms_at heap left ++ ts) (sym (ap (λ (ts : List Term). sifted ts old) split ∙ sifts-out (term_of heap (get_or ids k d)) (terms_at heap (drop (k + 1) ids)) old new (subst (λ b. Taken old new (term_of heap (get_or ids k d)) b) is taken))) ∙ so_far

  pub sift-on : (truth : Bool) (more : List TermId) → truth ≡ false → more ≡ left ++ get_or ids k d ∷ [] → Taken old new (term_of heap (get_or ids k d)) truth → terms_at heap more ++ sifted (terms_at heap (drop (k + 1) ids)) new ≡ all
  sift-on truth more is grown taken =
      ap (λ (zs : List TermId). terms_at heap zs ++ sifted (terms_at heap (drop (k + 1) ids)) new) grown
      ∙ ap (λ (ts : List Term). ts ++ sifted (terms_at heap (drop (k + 1) ids)) new) (map-append (term_of heap) left (get_or ids k d ∷ []))
      ∙ append_assoc (terms_at heap left) (term_of heap (get_or ids k d) ∷ []) (sifted (terms_at heap (drop (k + 1) ids)) new)
      ∙ ap (λ (ts : List Term). terms_at heap left ++ ts) (sym (ap (λ (ts : List Term). sifted ts old) split ∙ sifts-on (term_of heap (get_or ids k d)) (terms_at heap (drop (k + 1) ids)) old new (subst (λ b. Taken old new (term_of heap (get_or ids k d)) b) is taken)))
      ∙ so_far

-- where all are sifted
pub all-sifted : (heap : Heap) (parts others left : List TermId) (n : ℕ) (old now : Term → ℕ) → length parts ≤ n → terms_at heap left ++ sifted (terms_at heap (drop n parts)) now ≡ sifted (terms_at heap parts) old
    → ((t : Term) → old t ≡ how_many (terms_at heap others) t) → terms_at heap left ≡ without_each (terms_at heap parts) (terms_at heap others)
all-sifted heap parts others left n old now done so_far bag =
    sym (append-nil (terms_at heap left))
    ∙ ap (λ (zs : List TermId). terms_at heap left ++ sifted (terms_at heap zs) now) (sym (drop_of_length-le parts done))
    ∙ so_far
    ∙ sifted-same (terms_at heap parts) old (how_many (terms_at heap others)) bag
    ∙ sym (sifting (terms_at heap parts) (terms_at heap others))
