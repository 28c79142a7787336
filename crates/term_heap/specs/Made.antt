-- What is made once: the id of it that a heap keeps is given again.
use Rattle.std.specs.Prelude.{◌≡◌, ℕ, List, Some, slice_get, Result, Ok, IfOk}
use Rattle.std.specs.declared.alloc.AllocError.{AllocError}
use Rattle.term_heap.specs.Once.{at}
use Rattle.term_heap.specs.View.{terms_in, texts_in}
use Rattle.term_heap.specs.declared.cell.TermId.{TermId}
use Rattle.term_heap.specs.declared.heap.Heap.{Heap}

-- where an id is kept for the term of a place, that is given and the heap stays as it was; an id that is given is kept
pub record MakesOnce (place : ℕ) (old : Heap) (result : Result TermId AllocError) (new : Heap) : Type 0 where
  pub again : (id : TermId) → at old.once.ids.items place ≡ Some id → (result ≡ Ok id) × (new ≡ old)
  pub kept : IfOk result (λ id. at new.once.ids.items place ≡ Some id)

-- the id of an atom that is given is kept for the place of its text; where one was kept there, it is that and no term was added
pub record NamesOnce (name : List ℕ) (old : Heap) (id : TermId) (new : Heap) : Type 0 where
  pub place : ℕ
  pub text : slice_get (texts_in new) place ≡ Some name
  pub kept : at new.named.ids.items place ≡ Some id
  pub again : (other : TermId) → at old.named.ids.items place ≡ Some other → (id ≡ other) × (terms_in new ≡ terms_in old)
