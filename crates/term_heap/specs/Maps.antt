-- Maps of a heap by their entries: keys and values as ids.
use Rattle.std.specs.Prelude.{◌≡◌, ℕ, List, [], ◌∷◌, ◌++◌, length, Option, IfSome, Result, Ok, Err}
use Rattle.std.specs.declared.cmp.Ordering.TheVariants.{Equal, Greater}
use Rattle.forest.specs.View as forest
use Rattle.forest.specs.declared.tree.Tree.{Tree}
use Rattle.ej_term.specs.Term.{Term, Pairs}
use Rattle.ej_term.specs.Order.{compare}
use Rattle.term_heap.specs.Cells.{from_entries}
use Rattle.term_heap.specs.Entries.{Above, Rising, HoldsEntries, entries_at}
use Rattle.term_heap.specs.View.{Holds}
use Rattle.term_heap.specs.declared.cell.TermId.{TermId}
use Rattle.term_heap.specs.declared.heap.Heap.{Heap}
use Rattle.term_heap.specs.declared.maps.Entries.{Entries}

-- ---- lists of entries in the heap's trees

abbrev pub listed : Heap → Tree → List (TermId × TermId)
listed heap tree = forest.list_of heap.maps tree

-- the terms of a tree's keys and values
abbrev pub pairs_in : Heap → Tree → Pairs
pairs_in heap tree = from_entries (entries_at heap (listed heap tree))

-- a tree of a map: its keys and values are ids of the heap, and the keys rise
pub record IsTree (heap : Heap) (tree : Tree) : Type 0 where
  pub held : forest.Holds heap.maps tree
  pub ids : HoldsEntries heap (listed heap tree)
  pub rises : Rising (pairs_in heap tree)

-- ---- maps

-- the keys, which rise, with their values
abbrev pub entries_of : Heap → Entries → List (TermId × TermId)
entries_of heap entries = listed heap entries.tree

-- the pairs of a map
abbrev pub pairs_of : Heap → Entries → Pairs
pairs_of heap entries = pairs_in heap entries.tree

-- the entries are those of a map of the heap
abbrev pub IsMap : Heap → Entries → Type 0
IsMap heap entries = IsTree heap entries.tree

abbrev pub HoldsSome : Heap → Option TermId → Type 0
HoldsSome heap id = IfSome id (Holds heap)

-- ---- the place of a key

-- each key is below this one
abbrev pub Below : Term → List (Term × Term) → Type 0
Below key [] = Unit {0}
Below key (e ∷ es) = (compare key e.0 ≡ Greater) × Below key es

-- the key stands at this place
pub record StandsAt (key : Term) (es : List (Term × Term)) (place : ℕ) : Type 0 where
  pub front : List (Term × Term)
  pub entry : Term × Term
  pub behind : List (Term × Term)
  pub are : es ≡ front ++ entry ∷ behind
  pub count : length front ≡ place
  pub below : Below key front
  pub same : compare key entry.0 ≡ Equal

-- the key is not there, and is to go to this place
pub record GoesTo (key : Term) (es : List (Term × Term)) (place : ℕ) : Type 0 where
  pub front : List (Term × Term)
  pub behind : List (Term × Term)
  pub are : es ≡ front ++ behind
  pub count : length front ≡ place
  pub below : Below key front
  pub above : Above key (from_entries behind)

abbrev pub IsPlace : Term → List (Term × Term) → Result ℕ ℕ → Type 0
IsPlace key es (Ok place) = StandsAt key es place
IsPlace key es (Err place) = GoesTo key es place
