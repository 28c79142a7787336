-- What is held stays so while terms are added, with one more behind it.
use Rattle.std.proofs.Common.{List, [], ◌∷◌, ◌++◌}
use Rattle.std.proofs.lemmas.List.Elements.{All-nil, All-cons, All-append}
use Rattle.term_heap.specs.declared.cell.TermId.{TermId}
use Rattle.term_heap.specs.declared.heap.Heap.{Heap}
use Rattle.term_heap.specs.View.{Holds, Keeps}
use Rattle.term_heap.specs.Held.{HoldsEach}
use Rattle.term_heap.proofs.Kept.{held, kept-each, keeps-then}

pub held_behind : (old new : Heap) (ids : List TermId) (id : TermId) → Keeps old new → HoldsEach old ids → Holds new id → HoldsEach new (ids ++ id ∷ [])
held_behind old new ids id keeps all is = All-append (Holds new) ids (id ∷ []) (kept-each old new ids keeps all) (All-cons (Holds new) id [] is (All-nil (Holds new)))

-- what is held stays so while terms are added
pub kept : (old new : Heap) (id : TermId) → Keeps old new → Holds old id → Holds new id
kept old new id keeps is = held old new id keeps is

-- what is kept, and kept again, is kept
pub kept_twice : (old new last : Heap) → Keeps old new → Keeps new last → Keeps old last
kept_twice old new last first more = keeps-then old new last first more
