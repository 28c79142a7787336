-- What a term begins with, as a list.
use Rattle.std.specs.Prelude.{◌≡◌, false, Option, Some}
use Rattle.std.specs.Prelude as std
use Rattle.ej_term.specs.Term.{Term, Cons}
use Rattle.ej_term.specs.Tests.{is_nonempty_list}
use Rattle.term_heap.specs.declared.cell.TermId.{TermId}
use Rattle.term_heap.specs.declared.heap.Heap.{Heap}
use Rattle.term_heap.specs.View.{Holds, term_of}

-- the head and the tail of a list that is not empty
abbrev pub IsFront : Heap → Term → Option (TermId × TermId) → Type 0
IsFront heap term (Some (head, tail)) = Holds heap head × Holds heap tail × (term ≡ Cons (term_of heap head) (term_of heap tail))
IsFront heap term std.None = is_nonempty_list term ≡ false
