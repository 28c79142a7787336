-- What reading bytes answers.
use Rattle.std.specs.Prelude.{◌≡◌, ◌≢◌, ℕ, List, ◌++◌, codes, Result, Ok, Err}
use Rattle.std.specs.declared.vec.Vec.{Vec}
use Rattle.ej_term.specs.declared.asm_term.AsmTerm.{AsmTerm}
use Rattle.ej_term.specs.TermPrint.{print}
use Rattle.asm_terms.specs.Forms.{AreForms}
use Rattle.term_heap.specs.declared.cell.TermId.{TermId}
use Rattle.term_heap.specs.declared.heap.Heap.{Heap}
use Rattle.term_heap.specs.View.{Holds, term_of}
use Rattle.term_text.specs.declared.fault.ReadFault.{ReadFault}
use Rattle.term_text.specs.declared.fault.ReadFault.TheVariants.{BadText, NoMemory}
use Rattle.ej_term.specs.Prints.{IsPrint, IsNoPrint}

-- the id of the term whose print these bytes are, or that they are no readable term's print
abbrev pub Reads : Heap → List ℕ → Result TermId ReadFault → Type 0
Reads heap bytes (Ok id) = Holds heap id × IsPrint bytes (term_of heap id)
Reads heap bytes (Err BadText) = IsNoPrint bytes
Reads heap bytes (Err NoMemory) = Unit {0}

-- the forms of bytes and a full stop, or that the bytes are no print
abbrev pub ReadsForms : {A : Type 0} → List ℕ → Result (Vec AsmTerm A) ReadFault → Type 0
ReadsForms bytes (Ok forms) = AreForms (bytes ++ codes ".\n") forms.items
ReadsForms bytes (Err BadText) = IsNoPrint bytes
ReadsForms bytes (Err NoMemory) = Unit {0}

-- that id, whose term prints as these bytes, or that it prints otherwise
abbrev pub Checks : Heap → List ℕ → TermId → Result TermId ReadFault → Type 0
Checks heap bytes id (Ok same) = (same ≡ id) × (print (term_of heap id) ≡ bytes)
Checks heap bytes id (Err BadText) = print (term_of heap id) ≢ bytes
Checks heap bytes id (Err NoMemory) = Unit {0}
