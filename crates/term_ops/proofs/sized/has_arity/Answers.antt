use Rattle.std.proofs.Common.{nat_eq, sym, ap, ◌∙◌}
use Rattle.std.proofs.lemmas.List.{length-map}
use Rattle.term_heap.specs.View.{term_of}
use Rattle.term_heap.specs.Held.{terms_at}
use Rattle.term_ops.proofs.SizeLemmas.{sized}
use Rattle.term_ops.proofs.sized.has_arity.Goals as goal

pub returns : goal.returns
returns c =
    ap (λ k. nat_eq k c.in-Some-natural.n) (sym (length-map c.in-Some.elements.now (term_of c.args.heap.now)))
    ∙ sized (term_of c.args.heap.now c.args.id) (term_of c.args.heap.now c.args.size) (terms_at c.args.heap.now c.in-Some.elements.now) c.in-Some-natural.n
    c.in-Some.ensures.elements c.in-Some-natural.ensures
