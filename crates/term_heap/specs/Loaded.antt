-- What a source's term is as a term of a heap.
use Rattle.std.specs.Prelude.{◌≡◌, true, Some, Result, Ok, Err}
use Rattle.ej_term.specs.declared.asm_term.AsmTerm.{AsmTerm}
use Rattle.ej_term.specs.AsmValue.{value, has_opaque}
use Rattle.term_heap.specs.declared.cell.TermId.{TermId}
use Rattle.term_heap.specs.declared.heap.Heap.{Heap}
use Rattle.term_heap.specs.declared.load.LoadFault.{LoadFault}
use Rattle.term_heap.specs.declared.load.LoadFault.TheVariants as fault
use Rattle.term_heap.specs.View.{Holds, term_of}

-- the id stands for the value of the source's term
abbrev pub IsLoaded : Heap → AsmTerm → TermId → Type 0
IsLoaded heap t id = Holds heap id × (value t ≡ Some (term_of heap id))

-- what loading answers: the term's id, or that an opaque token is in it
abbrev pub Loads : Heap → AsmTerm → Result TermId LoadFault → Type 0
Loads heap t (Ok id) = IsLoaded heap t id
Loads heap t (Err fault.Opaque) = has_opaque t ≡ true
Loads heap t (Err fault.NoMemory) = Unit {0}

-- where an opaque token is in a term, the heap is as it was
abbrev pub Untouched : Result TermId LoadFault → Heap → Heap → Type 0
Untouched (Err fault.Opaque) old new = new ≡ old
Untouched _ old new = Unit {0}
