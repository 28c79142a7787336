use Rattle.std.proofs.Common.{◌≡◌, drop}
use Rattle.ej_term.specs.Digits as spec
use Rattle.term_heap.specs.View.{Holds, term_of, Keeps}
use Rattle.term_ops.proofs.digits.string.Given as goal

abbrev pub invariant-loop-place : goal.invariant-loop-place
invariant-loop-place l = Keeps l.fn.heap l.heap × Holds l.heap l.list × (term_of l.heap l.list ≡ spec.string (drop l.place l.characters))
