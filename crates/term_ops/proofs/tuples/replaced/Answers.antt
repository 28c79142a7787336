use Rattle.std.proofs.Common.{List, arith, slice_set, ap, ◌∙◌}
use Rattle.std.proofs.lemmas.List.{length-map, map-set}
use Rattle.ej_term.specs.Term.{Term, tuple}
use Rattle.term_heap.specs.declared.cell.TermId.{TermId}
use Rattle.ej_term.specs.Outcome.{Value}
use Rattle.term_heap.specs.View.{term_of}
use Rattle.term_heap.specs.Held.{terms_at}
use Rattle.term_ops.proofs.TuplesReplaced.{set-element, set-none}
use Rattle.term_ops.proofs.tuples.replaced.Goals as goal

pub returns-then-place-elements-clause-elements : goal.returns-then-place-elements-clause-elements
returns-then-place-elements-clause-elements c =
    set-none (term_of c.args.heap.now c.args.place) (term_of c.args.heap.now c.args.id) (term_of c.args.heap.now c.args.value) c.in-Some.place
    (terms_at c.args.heap.now c.in-Some-tuple.elements.now) c.in-Some.ensures c.in-Some-tuple.ensures.elements
    (let l = length-map c.in-Some-tuple.elements.now (term_of c.args.heap.now) in let h = c.if-place-elements.true in omega (arith, l, h))

pub returns-clause-elements : goal.returns-clause-elements
returns-clause-elements c =
    let l = length-map c.in-Some-tuple.elements.now (term_of c.args.heap.now) in
    let h = c.if-place-elements.false in
    ap (λ (ids : List TermId). Value (tuple (terms_at c.args.heap.now (slice_set ids c.in-Some.place c.args.value)))) c.in_ok-elements.ensures.items
    ∙ ap (λ (ts : List Term). Value (tuple ts)) (map-set (term_of c.args.heap.now) c.in-Some-tuple.elements.now c.in-Some.place c.args.value)
    ∙ set-element (term_of c.args.heap.now c.args.place) (term_of c.args.heap.now c.args.id) (term_of c.args.heap.now c.args.value) c.in-Some.place
    (terms_at c.args.heap.now c.in-Some-tuple.elements.now) c.in-Some.ensures c.in-Some-tuple.ensures.elements (omega (arith, l, h))
