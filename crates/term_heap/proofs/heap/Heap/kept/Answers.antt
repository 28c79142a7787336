use Rattle.term_heap.specs.Once.{once_of}
use Rattle.term_heap.specs.View.{terms_in}
use Rattle.term_heap.proofs.Sharing.{kept-term}
use Rattle.term_heap.proofs.heap.Heap.kept.Goals as goal

pub returns-clause-term : goal.returns-clause-term
returns-clause-term c = kept-term once_of (terms_in c.args.self.now) c.args.self.now.once.ids.items c.args.place c.get.result c.get.ensures c.args.self.now.once_stand
