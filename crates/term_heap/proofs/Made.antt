-- The terms of cells whose parts are ids of the heap.
use Rattle.std.proofs.Common.{◌≡◌, ℕ, Bool, List, [], ◌∷◌, map, slice_get, Option, Some, option_map, unwrap_or, refl, ap, subst, ◌∙◌}
use Rattle.std.specs.Prelude.{IsSome, IfOk, Result}
use Rattle.std.specs.List.{All}
use Rattle.std.proofs.lemmas.List.Elements.{All-head, All-tail}
use Rattle.ej_term.specs.Term.{Term, Fun, Tuple, Nil, terms}
use Rattle.ej_term.specs.AsmValue.{every}
use Rattle.term_heap.specs.Cells.{Parts, term_for, terms_of, row_of, all_three, Extends}
use Rattle.term_heap.specs.declared.cell.TermId.{TermId}
use Rattle.term_heap.proofs.Meanings.{slice-more, three-is}
use Rattle.term_heap.proofs.Adding.{known}

abbrev pub IsId : List Term → TermId → Type 0
IsId ts id = IsSome (slice_get ts id.0)

abbrev pub term_at : List Term → TermId → Term
term_at ts id = unwrap_or (slice_get ts id.0) Nil

pub each-known : (ts : List Term) (ids : List TermId) → All (IsId ts) ids → terms_of ts ids ≡ Some (map (term_at ts) ids)
each-known ts [] all = refl
each-known ts (id ∷ ids) all =
    ap (λ o. every (o ∷ map (term_for ts) ids)) (known (slice_get ts id.0) Nil (All-head (IsId ts) id ids all))
    ∙ ap (option_map (◌∷◌ (term_at ts id))) (each-known ts ids (All-tail (IsId ts) id ids all))

pub row-known : (ps : Parts) (ts news : List Term) (first count : ℕ) (ids : List TermId) → news ≡ ts → row_of ps ts first count ≡ terms_of ts ids → All (IsId ts) ids
    → row_of ps news first count ≡ Some (map (term_at ts) ids)
row-known ps ts news first count ids same e all = ap (λ (zs : List Term). row_of ps zs first count) same ∙ e ∙ each-known ts ids all

pub tuple-known : (o : Option (List Term)) (ts : List Term) → o ≡ Some ts → option_map (λ ts. Tuple (terms ts)) o ≡ Some (Tuple (terms ts))
tuple-known o ts e = ap (option_map (λ ts. Tuple (terms ts))) e

pub extends-get : {X : Type 0} (xs ys : List X) (i : ℕ) (x : X) → Extends xs ys → slice_get xs i ≡ Some x → slice_get ys i ≡ Some x
extends-get xs ys i x e g = ap (λ zs. slice_get zs i) e ∙ slice-more xs _ i x g

pub fun-known : (local : Bool) (arity : ℕ) (o p : Option (List ℕ)) (q : Option (List Term)) (m f : List ℕ) (ts : List Term) → o ≡ Some m → p ≡ Some f → q ≡ Some ts
    → all_three (λ m f ts. Fun local m f arity (terms ts)) o p q ≡ Some (Fun local m f arity (terms ts))
fun-known local arity o p q m f ts d e g = three-is (λ m f ts. Fun local m f arity (terms ts)) o p q m f ts d e g

pub fun-made : (local : Bool) (arity : ℕ) (us vs ws : List (List ℕ)) (ps : Parts) (ts ts1 ts2 ts3 : List Term) (m n first count : ℕ) (ids : List TermId) (owner name : List ℕ)
    → slice_get us m ≡ Some owner → Extends us vs → slice_get vs n ≡ Some name → ws ≡ vs → ts1 ≡ ts → ts2 ≡ ts1 → ts3 ≡ ts2 → row_of ps ts2 first count ≡ terms_of ts2 ids → All (IsId ts) ids
    → all_three (λ m f ts. Fun local m f arity (terms ts)) (slice_get ws m) (slice_get ws n) (row_of ps ts3 first count) ≡ Some (Fun local owner name arity (terms (map (term_at ts) ids)))
fun-made local arity us vs ws ps ts ts1 ts2 ts3 m n first count ids owner name is-owner more is-name same e1 e2 e3 e all =
    fun-known local arity _ _ _ owner name (map (term_at ts) ids)
    (ap (λ zs. slice_get zs m) same ∙ extends-get us vs m owner more is-owner)
    (ap (λ zs. slice_get zs n) same ∙ is-name)
    (row-known ps ts ts3 first count ids (e3 ∙ e2 ∙ e1) (subst (λ (zs : List Term). row_of ps zs first count ≡ terms_of zs ids) (e2 ∙ e1) e) all)

pub tuple-made : (ps : Parts) (ts news : List Term) (first count : ℕ) (ids : List TermId) → news ≡ ts → row_of ps ts first count ≡ terms_of ts ids → All (IsId ts) ids
    → option_map (λ ts. Tuple (terms ts)) (row_of ps news first count) ≡ Some (Tuple (terms (map (term_at ts) ids)))
tuple-made ps ts news first count ids same e all = tuple-known (row_of ps news first count) (map (term_at ts) ids) (row-known ps ts news first count ids same e all)

-- what a made id stands for
pub made : {E : Type 0} (r : Result TermId E) (ts : List Term) (o : Option Term) (t : Term) → IfOk r (λ id. slice_get ts id.0 ≡ o) → o ≡ Some t → IfOk r (λ id. slice_get ts id.0 ≡ Some t)
made r ts o t h e = subst (λ (p : Option Term). IfOk r (λ id. slice_get ts id.0 ≡ p)) e h
