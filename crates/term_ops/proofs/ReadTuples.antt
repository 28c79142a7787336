-- The elements of the tuple that a cell stands for.
use Rattle.std.proofs.Common.{◌≡◌, ℕ, ◌+◌, ◌≤◌, List, [], ◌∷◌, length, map, take, drop, slice_get, Some, unwrap_or, refl, sym, ap, ap₂, subst, ◌∙◌, arith}
use Rattle.std.specs.List.{All}
use Rattle.std.proofs.lemmas.List.Elements.{All-nil, All-cons}
use Rattle.std.proofs.lemmas.Grind.{common_steps}
use Rattle.ej_term.specs.Term.{Term, Tuple, Nil, Terms, None, More, terms}
use Rattle.ej_term.specs.Tuples.{items}
use Rattle.ej_term.proofs.Options.{mapped, chained, first-every}
use Rattle.term_heap.specs.Cells.{Parts, run, terms_of, row_of, meaning}
use Rattle.term_heap.specs.declared.cell.TermId.{TermId}
use Rattle.term_heap.specs.declared.cell.Cell.TheVariants as c
use Rattle.term_heap.proofs.Made.{IsId, term_at}
use Rattle.term_heap.proofs.Adding.{is-known}

pub items-terms : (xs : List Term) → items (terms xs) ≡ xs
items-terms [] = refl
items-terms (x ∷ xs) = ap (λ (ys : List Term). x ∷ ys) (items-terms xs)

pub terms-items : (xs : Terms) → terms (items xs) ≡ xs
terms-items None = refl
terms-items (More x xs) = ap (More x) (terms-items xs)

-- each id is there, and these are their terms
pub terms_of-known : (ts : List Term) (ids : List TermId) (xs : List Term) → terms_of ts ids ≡ Some xs → All (IsId ts) ids × (map (term_at ts) ids ≡ xs)
terms_of-known ts [] xs e = (All-nil (IsId ts), ap (λ o. unwrap_or o xs) e)
terms_of-known ts (id ∷ ids) xs e =
    let f = first-every (slice_get ts id.0) _ xs e in
    let r = terms_of-known ts ids f.1 f.3 in (
      All-cons (IsId ts) id ids (is-known (slice_get ts id.0) f.0 f.2) r.0,
      ap₂ (λ (y : Term) (ys : List Term). y ∷ ys) (ap (λ o. unwrap_or o Nil) f.2) r.1 ∙ f.4,
    )

pub run-is : {X : Type 0} (xs : List X) (first count : ℕ) (r : List X) → run xs first count ≡ Some r → (first + count ≤ length xs) × (take count (drop first xs) ≡ r)
run-is xs first count r e = grind (arith, common_steps, e)

pub record AreParts (ps : List TermId) (ts : List Term) (first count : ℕ) (xs : List Term) : Type 0 where
  pub within : first + count ≤ length ps
  pub held : All (IsId ts) (take count (drop first ps))
  pub terms : map (term_at ts) (take count (drop first ps)) ≡ xs

pub parts-known : (ps : Parts) (ts : List Term) (first count : ℕ) (xs : List Term) → row_of ps ts first count ≡ Some xs → AreParts ps.ids ts first count xs
parts-known ps ts first count xs e =
    let f = chained (terms_of ts) (run ps.ids first count) xs e in
    let r = run-is ps.ids first count f.0 f.1 in
    let k = terms_of-known ts f.0 xs f.2 in
    record {
      within = r.0;
      held = subst (λ (ids : List TermId). All (IsId ts) ids) (sym r.1) k.0;
      terms = ap (λ (ids : List TermId). map (term_at ts) ids) r.1 ∙ k.1;
    }

pub tuple-parts : (us : List (List ℕ)) (ps : Parts) (ts : List Term) (first count : ℕ) (t : Term) → meaning us ps ts (c.Tuple first count) ≡ Some t
    → (xs : List Term) × (t ≡ Tuple (terms xs)) × AreParts ps.ids ts first count xs
tuple-parts us ps ts first count t e =
    let m = mapped (λ ts. Tuple (terms ts)) (row_of ps ts first count) t e in
    (m.0, sym m.2, parts-known ps ts first count m.0 m.1)
