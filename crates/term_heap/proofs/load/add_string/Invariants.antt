use Rattle.std.proofs.Common.{◌≡◌, drop}
use Rattle.ej_term.specs.Digits.{string}
use Rattle.term_heap.specs.View.{Holds, term_of, Keeps}
use Rattle.term_heap.proofs.load.add_string.Given as goal

abbrev pub invariant-loop-at : goal.invariant-loop-at
invariant-loop-at l =
    Keeps l.initial.heap l.heap × Holds l.heap l.list × (term_of l.heap l.list ≡ string (drop l.at l.characters))
