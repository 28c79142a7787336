-- What answers of builtin functions stand for.
use Rattle.std.specs.Prelude.{◌≡◌}
use Rattle.ej_term.specs.Outcome.{Outcome}
use Rattle.ej_term.specs.Outcome as o
use Rattle.term_heap.specs.View.{Stands, Holds}
use Rattle.term_heap.specs.declared.heap.Heap.{Heap}
use Rattle.term_ops.specs.declared.answer.PureAnswer.{PureAnswer}
use Rattle.term_ops.specs.declared.answer.PureAnswer.TheVariants as a

-- the id stands for the value, or the exception has the class, and a reason that stands for the term
abbrev pub Gives : Heap → PureAnswer → Outcome → Type 0
Gives heap (a.Value id) (o.Value value) = Stands heap id value
Gives heap (a.Raised raised) (o.Raised class reason) = (raised.class ≡ class) × Stands heap raised.reason reason
Gives heap _ _ = ⊥

-- the value or the reason is a term of the heap
abbrev pub HoldsAnswer : Heap → PureAnswer → Type 0
HoldsAnswer heap (a.Value id) = Holds heap id
HoldsAnswer heap (a.Raised raised) = Holds heap raised.reason
