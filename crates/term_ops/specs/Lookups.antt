-- What is looked up in a map.
use Rattle.std.specs.Prelude.{Option, Some}
use Rattle.std.specs.Prelude as std
use Rattle.ej_term.specs.Term.{Term, Map}
use Rattle.ej_term.specs.Maps.{value_at}
use Rattle.term_heap.specs.View.{Holds, term_of}
use Rattle.term_heap.specs.declared.heap.Heap.{Heap}
use Rattle.term_ops.specs.declared.lookup.Lookup.{Lookup}
use Rattle.term_ops.specs.declared.lookup.Lookup.TheVariants as l

-- the value at a key, where there is one; none where the term is no map
abbrev pub looked_up : Term → Term → Option (Option Term)
looked_up key (Map pairs) = Some (value_at key pairs)
looked_up key _ = std.None

abbrev pub lookup_of : Heap → Lookup → Option (Option Term)
lookup_of heap (l.Value id) = Some (Some (term_of heap id))
lookup_of heap l.NoKey = Some std.None
lookup_of heap l.NoMap = std.None

abbrev pub HoldsLookup : Heap → Lookup → Type 0
HoldsLookup heap (l.Value id) = Holds heap id
HoldsLookup heap _ = Unit {0}
