-- A heap as the terms that its ids stand for.
use Rattle.std.specs.Prelude.{◌≡◌, ℕ, List, take, slice_get, Option, Some, unwrap_or, IsSome}
use Rattle.ej_term.specs.Term.{Term, Nil}
use Rattle.term_heap.specs.Cells.{Parts, stored, meaning, all_meant, Extends, ExtendsParts}
use Rattle.forest.specs.View.{lists_in}
use Rattle.term_heap.specs.declared.cell.TermId.{TermId}
use Rattle.term_heap.specs.declared.cell.Cell.{Cell}
use Rattle.term_heap.specs.declared.heap.Heap.{Heap}

-- the parts by their places
abbrev pub parts_in : Heap → Parts
parts_in heap = stored heap.parts.items (lists_in heap.maps)

-- the terms by their ids
abbrev pub terms_in : Heap → List Term
terms_in heap = all_meant heap.atoms.keys (parts_in heap) heap.cells.items

-- the texts of atoms by their places
abbrev pub texts_in : Heap → List (List ℕ)
texts_in heap = heap.atoms.keys

-- the id stands for this term
abbrev pub Stands : Heap → TermId → Term → Type 0
Stands heap id term = slice_get (terms_in heap) id.0 ≡ Some term

-- the id is one of the heap
abbrev pub Holds : Heap → TermId → Type 0
Holds heap id = IsSome (slice_get (terms_in heap) id.0)

-- the term that an id of the heap stands for
abbrev pub term_of : Heap → TermId → Term
term_of heap id = unwrap_or (slice_get (terms_in heap) id.0) Nil

-- the term of a cell, by the ids and places that it names
abbrev pub cell_term : Heap → Cell → Option Term
cell_term heap cell = meaning (texts_in heap) (parts_in heap) (terms_in heap) cell

-- the cell of an id names ids below it alone: it has a term by the terms of these
abbrev pub NamesEarlier : Heap → TermId → Cell → Type 0
NamesEarlier heap id cell = IsSome (meaning (texts_in heap) (parts_in heap) (take id.0 (terms_in heap)) cell)

-- each earlier id keeps its term, and each place its part or text
pub record Keeps (old new : Heap) : Type 0 where
  pub terms : Extends (terms_in old) (terms_in new)
  pub parts : ExtendsParts (parts_in old) (parts_in new)
  pub texts : Extends (texts_in old) (texts_in new)
