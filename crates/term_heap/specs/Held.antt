-- Terms of ids.
use Rattle.std.specs.Prelude.{List, map}
use Rattle.std.specs.List.{All}
use Rattle.ej_term.specs.Term.{Term}
use Rattle.term_heap.specs.declared.cell.TermId.{TermId}
use Rattle.term_heap.specs.declared.heap.Heap.{Heap}
use Rattle.term_heap.specs.View.{Holds, term_of}

-- each of the ids is one of the heap
abbrev pub HoldsEach : Heap → List TermId → Type 0
HoldsEach heap ids = All (Holds heap) ids

-- the terms that ids of the heap stand for
abbrev pub terms_at : Heap → List TermId → List Term
terms_at heap ids = map (term_of heap) ids
