use Rattle.std.proofs.Common.{◌<◌, ◌+◌, ◌^◌, ℕ, List, length, sym, ap, subst, ◌∙◌, refl, rules, arith}
use Rattle.std.specs.Prelude.{Result, Ok, Err, IfOk}
use Rattle.std.specs.declared.alloc.AllocError.{AllocError}
use Rattle.ej_term.specs.Term.{Term}
use Rattle.term_heap.specs.Entries.{entries_at, entry_of}
use Rattle.term_heap.specs.Maps.{listed, IsPlace, StandsAt, GoesTo}
use Rattle.term_heap.specs.View.{term_of}
use Rattle.term_heap.proofs.MapTrees.{beside, counted}
use Rattle.term_heap.proofs.Searching.{stands-here, stands-before, stands-behind, goes-behind, stands-within, goes-within}
use Rattle.term_heap.proofs.HeapBounds.{short-place}
use Rattle.term_heap.proofs.search.+place_of.Goals as goal

pub compare-requires-clause-second : goal.compare-requires-clause-second
compare-requires-clause-second t c = (beside c.args.heap.now c.maps.result.now c.args.tree c.in-Some.top c.maps.ensures c.requires.tree c.in-Some.ensures).item.0

pub place_of-requires : goal.place_of-requires
place_of-requires t c =
    let b = beside c.args.heap.now c.maps.result.now c.args.tree c.in-Some.top c.maps.ensures c.requires.tree c.in-Some.ensures in
    let less : length (listed c.args.heap.now c.in-Some.top.left) < length (listed c.args.heap.now c.args.tree) = b.shorter_left in
    (search rules, (b.left, c.requires.key))

pub place_of-requires-in-Greater : goal.place_of-requires-in-Greater
place_of-requires-in-Greater t c =
    let b = beside c.args.heap.now c.maps.result.now c.args.tree c.in-Some.top c.maps.ensures c.requires.tree c.in-Some.ensures in
    let less : length (listed c.args.heap.now c.in-Some.top.right) < length (listed c.args.heap.now c.args.tree) = b.shorter_right in
    (search rules, (b.right, c.requires.key))

ok-before : (key : Term) (es xs : List (Term × Term)) (r : Result (Result ℕ ℕ) AllocError) → ((p : Result ℕ ℕ) → IsPlace key xs p → IsPlace key es p) → IfOk r (IsPlace key xs) → IfOk r (IsPlace key es)
ok-before key es xs (Ok p) f is = f p is
ok-before key es xs (Err e) f is = tt

pub returns-in-Less : goal.returns-in-Less
returns-in-Less t c =
    let heap = c.args.heap.now in
    let b = beside heap c.maps.result.now c.args.tree c.in-Some.top c.maps.ensures c.requires.tree c.in-Some.ensures in
    let xs = entries_at heap (listed heap c.in-Some.top.left) in
    let ys = entries_at heap (listed heap c.in-Some.top.right) in
    ok-before (term_of heap c.args.key) (entries_at heap (listed heap c.args.tree)) xs c.place_of.result
    (λ p is. stands-before (term_of heap c.args.key) (entries_at heap (listed heap c.args.tree)) xs (entry_of heap c.in-Some.top.item) ys p b.are c.requires.tree.rises (sym c.in_ok-compare.ensures ∙ c.in-Less.is) is)
    c.place_of.ensures

pub returns-in-Equal : goal.returns-in-Equal
returns-in-Equal t c =
    let heap = c.args.heap.now in
    let b = beside heap c.maps.result.now c.args.tree c.in-Some.top c.maps.ensures c.requires.tree c.in-Some.ensures in
    stands-here (term_of heap c.args.key) (entries_at heap (listed heap c.args.tree)) (entries_at heap (listed heap c.in-Some.top.left)) (entry_of heap c.in-Some.top.item) (entries_at heap (listed heap c.in-Some.top.right)) c.len.result
    b.are (counted heap c.maps-in-Equal.result.now c.in-Some.top.left c.len.result c.maps-in-Equal.ensures c.len.ensures.len) c.requires.tree.rises (sym c.in_ok-compare.ensures ∙ c.in-Equal.is)

pub returns-in-Ok : goal.returns-in-Ok
returns-in-Ok t c =
    let heap = c.args.heap.now in
    let b = beside heap c.maps.result.now c.args.tree c.in-Some.top c.maps.ensures c.requires.tree c.in-Some.ensures in
    let place : StandsAt (term_of heap c.args.key) (entries_at heap (listed heap c.in-Some.top.right)) c.in-Ok.place = subst (IsPlace (term_of heap c.args.key) (entries_at heap (listed heap c.in-Some.top.right))) c.in-Ok.is c.in_ok-place-in-Greater.ensures in
    stands-behind (term_of heap c.args.key) (entries_at heap (listed heap c.args.tree)) (entries_at heap (listed heap c.in-Some.top.left)) (entry_of heap c.in-Some.top.item) (entries_at heap (listed heap c.in-Some.top.right))
    (c.len-before.result + 1) c.in-Ok.place (c.len-before.result + 1 + c.in-Ok.place)
    b.are (ap (λ n. n + 1) (counted heap c.maps-in-Greater.result.now c.in-Some.top.left c.len-before.result c.maps-in-Greater.ensures c.len-before.ensures.len)) refl c.requires.tree.rises (sym c.in_ok-compare.ensures ∙ c.in-Greater.is) place

pub returns-in-Err : goal.returns-in-Err
returns-in-Err t c =
    let heap = c.args.heap.now in
    let b = beside heap c.maps.result.now c.args.tree c.in-Some.top c.maps.ensures c.requires.tree c.in-Some.ensures in
    let place : GoesTo (term_of heap c.args.key) (entries_at heap (listed heap c.in-Some.top.right)) c.in-Err.place = subst (IsPlace (term_of heap c.args.key) (entries_at heap (listed heap c.in-Some.top.right))) c.in-Err.is c.in_ok-place-in-Greater.ensures in
    goes-behind (term_of heap c.args.key) (entries_at heap (listed heap c.args.tree)) (entries_at heap (listed heap c.in-Some.top.left)) (entry_of heap c.in-Some.top.item) (entries_at heap (listed heap c.in-Some.top.right))
    (c.len-before.result + 1) c.in-Err.place (c.len-before.result + 1 + c.in-Err.place)
    b.are (ap (λ n. n + 1) (counted heap c.maps-in-Greater.result.now c.in-Some.top.left c.len-before.result c.maps-in-Greater.ensures c.len-before.ensures.len)) refl c.requires.tree.rises (sym c.in_ok-compare.ensures ∙ c.in-Greater.is) place

-- a place is below the bound of a list, which is far from the end of the numbers
pub overflow_add-result : goal.overflow_add-result
overflow_add-result t c =
    let heap = c.args.heap.now in
    let place : StandsAt (term_of heap c.args.key) (entries_at heap (listed heap c.in-Some.top.right)) c.in-Ok.place = subst (IsPlace (term_of heap c.args.key) (entries_at heap (listed heap c.in-Some.top.right))) c.in-Ok.is c.in_ok-place-in-Greater.ensures in
    let b = beside heap c.maps.result.now c.args.tree c.in-Some.top c.maps.ensures c.requires.tree c.in-Some.ensures in
    let before : c.len-before.result < 2 ^ 31 = search rules in
    let small : c.in-Ok.place < 2 ^ 31 = short-place heap c.in-Some.top.right c.in-Ok.place b.right.held (omega (arith, stands-within (term_of heap c.args.key) (entries_at heap (listed heap c.in-Some.top.right)) c.in-Ok.place place)) in
    search rules

pub overflow_add-result-in-Err : goal.overflow_add-result-in-Err
overflow_add-result-in-Err t c =
    let heap = c.args.heap.now in
    let place : GoesTo (term_of heap c.args.key) (entries_at heap (listed heap c.in-Some.top.right)) c.in-Err.place = subst (IsPlace (term_of heap c.args.key) (entries_at heap (listed heap c.in-Some.top.right))) c.in-Err.is c.in_ok-place-in-Greater.ensures in
    let b = beside heap c.maps.result.now c.args.tree c.in-Some.top c.maps.ensures c.requires.tree c.in-Some.ensures in
    let before : c.len-before.result < 2 ^ 31 = search rules in
    let small : c.in-Err.place < 2 ^ 31 = short-place heap c.in-Some.top.right c.in-Err.place b.right.held (goes-within (term_of heap c.args.key) (entries_at heap (listed heap c.in-Some.top.right)) c.in-Err.place place) in
    search rules
