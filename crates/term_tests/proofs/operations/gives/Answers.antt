use Rattle.ej_term.specs.Builtins.{pure}
use Rattle.term_heap.specs.Held.{terms_at}
use Rattle.term_ops.proofs.AnswerHeld.{answer-holds}
use Rattle.term_tests.proofs.operations.gives.Goals as goal

pub returns-clause-answer : goal.returns-clause-answer
returns-clause-answer c = answer-holds c.pure.new.heap c.in_ok-answer.answer (pure c.args.number (terms_at c.args.heap.now c.args.args.now)) c.in_ok-answer.ensures.answer
