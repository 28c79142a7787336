use Rattle.std.proofs.Common.{◌≡◌, drop}
use Rattle.ej_term.specs.Lists.{list_onto}
use Rattle.term_heap.specs.View.{Holds, term_of, Keeps}
use Rattle.term_heap.specs.Held.{terms_at}
use Rattle.term_heap.proofs.heap.Heap.list_onto.Given as goal

abbrev pub invariant-loop-at : goal.invariant-loop-at
invariant-loop-at l =
    Keeps l.initial.self l.self × Holds l.self l.list
    × (term_of l.self l.list ≡ list_onto (terms_at l.initial.self (drop l.at l.parts)) (term_of l.initial.self l.fn.tail))
