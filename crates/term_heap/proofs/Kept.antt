-- What a heap keeps of its earlier ids, and what stands for a term.
use Rattle.std.proofs.Common.{◌≡◌, List, [], ◌∷◌, slice_get, unwrap_or, refl, ap, ap₂}
use Rattle.std.proofs.lemmas.List.Elements.{All-nil, All-cons, All-head, All-tail}
use Rattle.ej_term.specs.Term.{Term, Nil}
use Rattle.term_heap.specs.declared.cell.TermId.{TermId}
use Rattle.term_heap.specs.declared.heap.Heap.{Heap}
use Rattle.term_heap.specs.View.{terms_in, parts_in, texts_in, Holds, Stands, term_of, Keeps}
use Rattle.term_heap.specs.Held.{HoldsEach, terms_at}
use Rattle.term_heap.proofs.Made.{extends-get}
use Rattle.term_heap.proofs.Adding.{known, is-known, extends-then, extends-parts-then}

-- an id of the heap stands for its term
pub stands-now : (heap : Heap) (id : TermId) → Holds heap id → Stands heap id (term_of heap id)
stands-now heap id is = known (slice_get (terms_in heap) id.0) Nil is

-- what stands for a term is held
pub stands-held : (heap : Heap) (id : TermId) (t : Term) → Stands heap id t → Holds heap id
stands-held heap id t is = is-known (slice_get (terms_in heap) id.0) t is

-- the term that an id stands for is its term
pub stands-term : (heap : Heap) (id : TermId) (t : Term) → Stands heap id t → term_of heap id ≡ t
stands-term heap id t is = ap (λ o. unwrap_or o Nil) is

-- later it still stands for its term
pub still-stands : (old new : Heap) (id : TermId) (t : Term) → Keeps old new → Stands old id t → Stands new id t
still-stands old new id t keeps is = extends-get (terms_in old) (terms_in new) id.0 t keeps.terms is

pub stands : (old new : Heap) (id : TermId) → Keeps old new → Holds old id → Stands new id (term_of old id)
stands old new id keeps is = still-stands old new id (term_of old id) keeps (stands-now old id is)

pub held : (old new : Heap) (id : TermId) → Keeps old new → Holds old id → Holds new id
held old new id keeps is = stands-held new id (term_of old id) (stands old new id keeps is)

pub kept-term : (old new : Heap) (id : TermId) → Keeps old new → Holds old id → term_of new id ≡ term_of old id
kept-term old new id keeps is = stands-term new id (term_of old id) (stands old new id keeps is)

pub kept-each : (old new : Heap) (ids : List TermId) → Keeps old new → HoldsEach old ids → HoldsEach new ids
kept-each old new [] keeps all = All-nil (Holds new)
kept-each old new (id ∷ ids) keeps all =
    All-cons (Holds new) id ids (held old new id keeps (All-head (Holds old) id ids all)) (kept-each old new ids keeps (All-tail (Holds old) id ids all))

pub kept-terms : (old new : Heap) (ids : List TermId) → Keeps old new → HoldsEach old ids → terms_at new ids ≡ terms_at old ids
kept-terms old new [] keeps all = refl
kept-terms old new (id ∷ ids) keeps all =
    ap₂ (λ (t : Term) (ts : List Term). t ∷ ts) (kept-term old new id keeps (All-head (Holds old) id ids all)) (kept-terms old new ids keeps (All-tail (Holds old) id ids all))

pub keeps-then : (old new last : Heap) → Keeps old new → Keeps new last → Keeps old last
keeps-then old new last first more = record {
  terms = extends-then (terms_in old) (terms_in new) (terms_in last) first.terms more.terms;
  parts = extends-parts-then (parts_in old) (parts_in new) (parts_in last) first.parts more.parts;
  texts = extends-then (texts_in old) (texts_in new) (texts_in last) first.texts more.texts;
}
