-- What a heap has room for.
use Rattle.std.proofs.Common.{◌≡◌, ℕ, ◌+◌, ◌*◌, ◌^◌, ◌<◌, ◌≤◌, Bool, List, [], length, slice_get, option_and_then, subst, arith}
use Rattle.std.specs.Prelude.{IsSome}
use Rattle.std.proofs.lemmas.Option.{slice_get_within, get_or_from_slice_get}
use Rattle.std.proofs.lemmas.List.{length-map}
use Rattle.forest.specs.View as forest
use Rattle.forest.specs.View.{lists_in}
use Rattle.forest.specs.declared.tree.Tree.{Tree}
use Rattle.term_heap.specs.Entries.{entries_at, entry_of}
use Rattle.term_heap.specs.Maps.{listed}
use Rattle.forest.proofs.Placing.{list-fits, length-lists}
use Rattle.ej_term.specs.Term.{Term, Fun, Nil, terms}
use Rattle.ej_term.proofs.Options.{chained}
use Rattle.term_heap.specs.Cells.{Parts, number_of, row_of, map_of, entries_from, meaning}
use Rattle.term_heap.specs.View.{parts_in}
use Rattle.term_heap.specs.declared.cell.TermId.{TermId}
use Rattle.term_heap.specs.declared.cell.Cell.{Cell}
use Rattle.term_heap.specs.declared.cell.Cell.TheVariants as c
use Rattle.term_heap.proofs.Meanings.{three-parts}
use Rattle.term_heap.specs.declared.heap.Heap.{Heap}
use Rattle.term_heap.proofs.Adding.{known}
use Rattle.term_heap.proofs.Places.{Few, entries-known}

pub heap-few : (heap : Heap) → Few (parts_in heap)
heap-few heap = record {
  ids = (let small = heap.parts.small in let within = heap.parts.ok.1 in let long = heap.parts.ok.0 in omega (arith, small, within, long));
  maps = λ n es is. subst (λ (zs : List (TermId × TermId)). length zs < 2 ^ 31) (get_or_from_slice_get (lists_in heap.maps) n es [] is)
      (list-fits heap.maps.nodes.items n heap.maps.grows (slice_get_within (lists_in heap.maps) n es is));
  numbers = omega (arith, length-lists heap.maps.nodes.items, heap.maps.few);
}

-- a map is short
pub map-short : (ps : Parts) (few : Few ps) (ts : List Term) (first count : ℕ) → IsSome (option_and_then (map_of ts) (entries_from ps first count)) → count < 2 ^ 31
map-short ps few ts first count is =
    let f = chained (map_of ts) (entries_from ps first count) _ (known (option_and_then (map_of ts) (entries_from ps first count)) Nil is) in
    let k = entries-known ps first count f.0 f.1 in
    omega (arith, few.maps _ f.0 k.0, k.2)

-- a place in a list is small
pub short-place : (heap : Heap) (tree : Tree) (place : ℕ) → forest.Holds heap.maps tree → place ≤ length (entries_at heap (listed heap tree)) → place < 2 ^ 31
short-place heap tree place held within = omega (arith, within, length-map (listed heap tree) (entry_of heap), list-fits heap.maps.nodes.items tree.number heap.maps.grows held)

-- a map's places are numbers of 64 bits
pub map-fits : (ps : Parts) (few : Few ps) (ts : List Term) (first count : ℕ) → IsSome (option_and_then (map_of ts) (entries_from ps first count)) → first + 2 * count < 2 ^ 64
map-fits ps few ts first count is =
    let f = chained (map_of ts) (entries_from ps first count) _ (known (option_and_then (map_of ts) (entries_from ps first count)) Nil is) in
    let k = entries-known ps first count f.0 f.1 in
    omega (arith, few.maps _ f.0 k.0, few.numbers, slice_get_within ps.maps (number_of first) f.0 k.0, k.1, k.2)

-- a fun's names are texts of the heap
pub fun-names : (us : List (List ℕ)) (ps : Parts) (ts : List Term) (cell : Cell) (local : Bool) (m n arity first count : ℕ) → IsSome (meaning us ps ts cell) → cell ≡ c.Fun local m n arity first count → (m < length us) × (n < length us)
fun-names us ps ts cell local m n arity first count is same =
    let whole = known (meaning us ps ts (c.Fun local m n arity first count)) Nil (subst (λ (d : Cell). IsSome (meaning us ps ts d)) same is) in
    let p = three-parts (λ m f xs. Fun local m f arity (terms xs)) (slice_get us m) (slice_get us n) (row_of ps ts first count) _ whole in
    (slice_get_within us m p.0 p.3, slice_get_within us n p.1 p.4)
