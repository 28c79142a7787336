-- The ids of answers.
use Rattle.ej_term.specs.Outcome.{Outcome}
use Rattle.ej_term.specs.Outcome as o
use Rattle.term_heap.specs.declared.heap.Heap.{Heap}
use Rattle.term_ops.specs.declared.answer.PureAnswer.{PureAnswer}
use Rattle.term_ops.specs.declared.answer.PureAnswer.TheVariants as a
use Rattle.term_ops.specs.Answers.{Gives, HoldsAnswer}
use Rattle.term_heap.proofs.Kept.{stands-held}

-- what an answer gives is a term of the heap
pub answer-holds : (heap : Heap) (answer : PureAnswer) (outcome : Outcome) → Gives heap answer outcome → HoldsAnswer heap answer
answer-holds heap (a.Value id) (o.Value t) is = stands-held heap id t is
answer-holds heap (a.Value id) (o.Raised class t) is = absurd is
answer-holds heap (a.Raised raised) (o.Value t) is = absurd is
answer-holds heap (a.Raised raised) (o.Raised class t) is = stands-held heap raised.reason t is.1
