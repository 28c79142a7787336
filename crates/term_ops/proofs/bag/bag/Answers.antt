use Rattle.std.proofs.Common.{List, ap, ◌∙◌}
use Rattle.term_heap.specs.Held.{terms_at}
use Rattle.term_heap.specs.declared.cell.TermId.{TermId}
use Rattle.term_ops.proofs.BagLemmas.{bag-ascends, bag-among}
use Rattle.term_ops.proofs.bag.bag.Goals as goal

pub counts-requires-clause-rise : goal.counts-requires-clause-rise
counts-requires-clause-rise c = bag-ascends c.args.heap.now c.deref.result.now (terms_at c.args.heap.now c.args.ids.now) (ap (λ (zs : List TermId). terms_at c.args.heap.now zs) c.deref.ensures.value ∙ c.in_ok-keys.ensures.terms)

pub counts-requires-clause-among : goal.counts-requires-clause-among
counts-requires-clause-among c = bag-among c.args.heap.now c.deref.result.now c.args.ids.now (ap (λ (zs : List TermId). terms_at c.args.heap.now zs) c.deref.ensures.value ∙ c.in_ok-keys.ensures.terms)

pub returns-clause-rise : goal.returns-clause-rise
returns-clause-rise c = bag-ascends c.args.heap.now c.in_ok-keys.keys.items (terms_at c.args.heap.now c.args.ids.now) c.in_ok-keys.ensures.terms
