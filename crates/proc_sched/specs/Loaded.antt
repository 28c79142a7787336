-- What loading a call's terms answers.
use Rattle.std.specs.Prelude.{◌≡◌, ℕ, true, List, map, Some, Result, Ok, Err}
use Rattle.std.specs.List.{list_any}
use Rattle.ej_term.specs.declared.asm_term.AsmTerm.{AsmTerm}
use Rattle.ej_term.specs.AsmValue.{value, every, has_opaque}
use Rattle.ej_term.specs.Term.{Term, Atom, list}
use Rattle.ej_world.specs.declared.effect.Begin.{Begin}
use Rattle.ej_world.specs.declared.effect.Begin.TheVariants as begin
use Rattle.term_heap.specs.declared.cell.TermId.{TermId}
use Rattle.term_heap.specs.declared.heap.Heap.{Heap}
use Rattle.term_heap.specs.declared.load.LoadFault.{LoadFault}
use Rattle.term_heap.specs.declared.load.LoadFault.TheVariants as fault
use Rattle.term_heap.specs.View.{Holds, term_of}
use Rattle.proc_sched.specs.Seen.{begin_of, HoldsBegin}

-- the id stands for the list of these terms
pub record IsList (terms : List AsmTerm) (heap : Heap) (id : TermId) : Type 0 where
  pub held : Holds heap id
  pub parts : List Term
  pub are : every (map value terms) ≡ Some parts
  pub is : term_of heap id ≡ list parts

-- an opaque token is in one of them, and the heap is as it was
abbrev pub IsOpaque : List AsmTerm → (old new : Heap) → Type 0
IsOpaque terms old new = (list_any has_opaque terms ≡ true) × (new ≡ old)

abbrev pub LoadsList : List AsmTerm → (old new : Heap) → Result TermId LoadFault → Type 0
LoadsList terms old new (Ok id) = IsList terms new id
LoadsList terms old new (Err fault.Opaque) = IsOpaque terms old new
LoadsList terms old new (Err fault.NoMemory) = Unit {0}

-- a call of that function of that module, with the list of these arguments
pub record IsCall (module' name : List ℕ) (args : List AsmTerm) (heap : Heap) (how : Begin TermId) : Type 0 where
  pub held : HoldsBegin heap how
  pub parts : List Term
  pub are : every (map value args) ≡ Some parts
  pub is : begin_of heap how ≡ begin.Call (Atom module') (Atom name) (list parts)

abbrev pub LoadsCall : (module' name : List ℕ) → List AsmTerm → (old new : Heap) → Result (Begin TermId) LoadFault → Type 0
LoadsCall module' name args old new (Ok how) = IsCall module' name args new how
LoadsCall module' name args old new (Err fault.Opaque) = IsOpaque args old new
LoadsCall module' name args old new (Err fault.NoMemory) = Unit {0}
