use Rattle.std.proofs.Common.{◌≡◌, take}
use Rattle.ej_term.specs.Maps.{entry_tuples}
use Rattle.term_heap.specs.Cells.{from_entries}
use Rattle.term_heap.specs.Entries.{entries_at}
use Rattle.term_heap.specs.View.{Keeps}
use Rattle.term_heap.specs.Held.{HoldsEach, terms_at}
use Rattle.term_ops.proofs.maps.tuples.Given as goal

abbrev pub invariant-loop-key : goal.invariant-loop-key
invariant-loop-key l = Keeps l.initial.heap l.heap × HoldsEach l.heap l.tuples.items
    × (terms_at l.heap l.tuples.items ≡ entry_tuples (from_entries (entries_at l.initial.heap (take l.key-index l.entries))))
