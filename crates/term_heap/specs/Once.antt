-- Terms that a heap makes once: nil, the booleans, small integers, and atoms.
use Rattle.std.specs.Prelude.{◌≡◌, ℕ, zero, suc, pos, Bool, false, true, List, slice_get, Option, Some, option_map, option_and_then}
use Rattle.ej_term.specs.Term.{Term, Int, Atom, Nil}
use Rattle.ej_term.specs.Outcome.{boolean}
use Rattle.ej_term.specs.Tests.{equal}
use Rattle.term_heap.specs.declared.cell.TermId.{TermId}

-- what stands at a place of a table, if something does
abbrev pub at : List (Option TermId) → ℕ → Option TermId
at ids place = option_and_then (λ (id : Option TermId). id) (slice_get ids place)

-- the term of a place: nil, false, true, and the integers from 0
abbrev pub once_term : ℕ → Term
once_term zero = Nil
once_term (suc zero) = boolean false
once_term (suc (suc zero)) = boolean true
once_term (suc (suc (suc n))) = Int (pos n)

abbrev pub once_of : ℕ → Option Term
once_of place = Some (once_term place)

-- the atom of the text at a place
abbrev pub atom_of : List (List ℕ) → ℕ → Option Term
atom_of texts place = option_map Atom (slice_get texts place)

-- both are there, and equal
abbrev pub are_same : Option Term → Option Term → Bool
are_same (Some term) (Some other) = equal term other
are_same _ _ = false

-- each id in a table stands for the term of its place
abbrev pub AreKept : (ℕ → Option Term) → List Term → List (Option TermId) → Type 0
AreKept of terms ids = (place : ℕ) (id : TermId) → at ids place ≡ Some id → are_same (slice_get terms id.0) (of place) ≡ true
