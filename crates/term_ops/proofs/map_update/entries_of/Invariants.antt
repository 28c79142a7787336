use Rattle.std.proofs.Common.{◌≡◌, ◌++◌, drop, option_map}
use Rattle.ej_term.specs.Maps as spec
use Rattle.term_heap.specs.Held.{terms_at}
use Rattle.term_heap.specs.Entries.{HoldsEntries, entries_at}
use Rattle.term_ops.proofs.map_update.entries_of.Given as goal

abbrev pub invariant-loop-id : goal.invariant-loop-id
invariant-loop-id l = HoldsEntries l.heap l.entries.items
    × (option_map (◌++◌ (entries_at l.heap l.entries.items)) (spec.entries_of (terms_at l.heap (drop l.id-index l.ids))) ≡ spec.entries_of (terms_at l.heap l.ids))
