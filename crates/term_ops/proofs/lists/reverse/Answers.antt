use Rattle.std.proofs.Common.{◌≡◌, Some, ◌∙◌, rules}
use Rattle.ej_term.specs.Lists as spec
use Rattle.term_heap.specs.View.{term_of}
use Rattle.term_heap.specs.Held.{terms_at}
use Rattle.term_ops.proofs.ListsReverse.{gives-turned}
use Rattle.term_ops.proofs.lists.reverse.Goals as goal

pub returns-in_ok-list_onto-in-Some-clause-answer : goal.returns-in_ok-list_onto-in-Some-clause-answer
returns-in_ok-list_onto-in-Some-clause-answer c =
    let found : Some (terms_at c.args.heap.now c.in-Some.ids.items) ≡ spec.elements (term_of c.args.heap.now c.args.front) = search rules in
    gives-turned c.args.heap.now c.list_onto.new.self c.in_ok-list_onto-in-Some.field-0 c.in-Some.ids.items c.deref.result.now (term_of c.args.heap.now c.args.front) (term_of c.args.heap.now c.args.back)
    found (c.deref.ensures.value ∙ c.reverse.ensures.items) c.in_ok-list_onto-in-Some.ensures.term
