use Rattle.std.proofs.Common.{◌≡◌, List, rules, replicate, ap, subst, ◌∙◌}
use Rattle.ej_term.specs.Term.{Term, tuple}
use Rattle.ej_term.specs.Outcome.{Outcome, Value}
use Rattle.term_heap.specs.View.{term_of}
use Rattle.term_heap.specs.Held.{terms_at}
use Rattle.term_heap.specs.declared.cell.TermId.{TermId}
use Rattle.term_ops.specs.Answers.{Gives}
use Rattle.term_ops.specs.declared.answer.PureAnswer.TheVariants as a
use Rattle.term_ops.proofs.TuplesReplaced.{many, replicated}
use Rattle.term_ops.proofs.tuples.make_tuple.Goals as goal

pub returns-in_ok-tuple-in-Some-clause-answer : goal.returns-in_ok-tuple-in-Some-clause-answer
returns-in_ok-tuple-in-Some-clause-answer c =
    let same : c.in_ok-elements-in-Some.elements.items ≡ replicate c.in-Some.size c.args.value = search rules in
    subst (λ (o : Outcome). Gives c.tuple.new.self (a.Value c.in_ok-tuple-in-Some.field-0) o)
    (ap (λ (ids : List TermId). Value (tuple (terms_at c.args.heap.now ids))) (c.deref.ensures.value ∙ same)
    ∙ ap (λ (ts : List Term). Value (tuple ts)) (replicated (term_of c.args.heap.now) c.in-Some.size c.args.value)
    ∙ many (term_of c.args.heap.now c.args.size) (term_of c.args.heap.now c.args.value) c.in-Some.size c.in-Some.ensures c.if-size-le-MOST_ELEMENTS.true)
    c.in_ok-tuple-in-Some.ensures.term
