use Rattle.std.proofs.Common.{◌≡◌, take}
use Rattle.ej_term.specs.Maps.{put_each}
use Rattle.term_heap.specs.Entries.{entries_at}
use Rattle.term_heap.specs.Maps.{pairs_in, IsTree}
use Rattle.term_heap.specs.View.{terms_in, Keeps}
use Rattle.term_heap.proofs.heap.Heap.put_each.Given as goal

abbrev pub invariant-loop-pair : goal.invariant-loop-pair
invariant-loop-pair l =
    Keeps l.fn.self l.self × (terms_in l.self ≡ terms_in l.fn.self) × IsTree l.self l.tree
    × (pairs_in l.self l.tree ≡ put_each (pairs_in l.fn.self l.fn.entries.tree) (entries_at l.fn.self (take l.pair-index l.pairs)))
