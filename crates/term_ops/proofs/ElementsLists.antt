-- Lists of terms and the ids of their elements.
use Rattle.std.proofs.Common.{◌≡◌, ℕ, ◌<◌, List, [], ◌∷◌, ◌++◌, length, get_or, take, Option, option_map, refl, sym, ap, ap₂, subst, ◌∙◌, suc}
use Rattle.std.specs.Prelude.{IfOk, Result}
use Rattle.std.proofs.lemmas.List.{map-append}
use Rattle.std.proofs.lemmas.List.Elements.{All-get_or}
use Rattle.std.proofs.Math.Seq.{take-suc}
use Rattle.ej_term.specs.Term.{Term, Nil, Cons, list}
use Rattle.ej_term.specs.Lists.{list_onto}
use Rattle.term_heap.specs.declared.cell.TermId.{TermId}
use Rattle.term_heap.specs.declared.heap.Heap.{Heap}
use Rattle.term_heap.specs.View.{Holds, Stands, term_of, Keeps}
use Rattle.term_heap.specs.Held.{HoldsEach, terms_at}
use Rattle.term_heap.proofs.Kept.{stands-term, kept-term, kept-terms}

-- these elements in front of others, where there are any
abbrev pub before : List Term → Option (List Term) → Option (List Term)
before xs o = option_map (◌++◌ xs) o

onto-append : (xs ys : List Term) (t : Term) → list_onto (xs ++ ys) t ≡ list_onto xs (list_onto ys t)
onto-append [] ys t = refl
onto-append (x ∷ xs) ys t = ap (Cons x) (onto-append xs ys t)

-- one more element in front of those behind it
pub onto-next : (start heap new : Heap) (ids : List TermId) (k : ℕ) (d behind made : TermId) (all : Term) → k < length ids → HoldsEach start ids → Keeps start heap
    → Stands new made (Cons (term_of heap (get_or ids k d)) (term_of heap behind)) → list_onto (terms_at start (take (suc k) ids)) (term_of heap behind) ≡ all
    → list_onto (terms_at start (take k ids)) (term_of new made) ≡ all
onto-next start heap new ids k d behind made all within holds keeps is so_far =
    ap (list_onto (terms_at start (take k ids))) (stands-term new made _ is ∙ ap (λ (t : Term). Cons t (term_of heap behind)) (kept-term start heap (get_or ids k d) keeps (All-get_or (Holds start) ids k d within holds)))
    ∙ sym (onto-append (terms_at start (take k ids)) (term_of start (get_or ids k d) ∷ []) (term_of heap behind))
    ∙ ap (λ (zs : List Term). list_onto zs (term_of heap behind)) (sym (map-append (term_of start) (take k ids) (get_or ids k d ∷ [])))
    ∙ ap (λ (zs : List TermId). list_onto (terms_at start zs) (term_of heap behind)) (sym (take-suc ids k d within))
    ∙ so_far

pub onto-nil : (xs : List Term) → list_onto xs Nil ≡ list xs
onto-nil [] = refl
onto-nil (x ∷ xs) = ap (Cons x) (onto-nil xs)

-- the list of what is held is the list on nil
pub list-made : {E : Type 0} (r : Result TermId E) (old heap new : Heap) (ids : List TermId) (nil : TermId) → HoldsEach old ids → Keeps old heap → Stands heap nil Nil
    → IfOk r (λ id. Stands new id (list_onto (terms_at heap ids) (term_of heap nil))) → IfOk r (λ id. Stands new id (list (terms_at old ids)))
list-made r old heap new ids nil holds keeps is made =
    subst (λ (t : Term). IfOk r (λ id. Stands new id t))
    (ap₂ list_onto (kept-terms old heap ids keeps holds) (stands-term heap nil Nil is) ∙ onto-nil (terms_at old ids)) made
