use Rattle.term_heap.specs.Once.{atom_of}
use Rattle.term_heap.specs.View.{terms_in, texts_in}
use Rattle.term_heap.proofs.Sharing.{kept-term}
use Rattle.term_heap.proofs.heap.Heap.kept_name.Goals as goal

pub returns-clause-term : goal.returns-clause-term
returns-clause-term c = kept-term (atom_of (texts_in c.args.self.now)) (terms_in c.args.self.now) c.args.self.now.named.ids.items c.args.place c.get.result c.get.ensures c.args.self.now.named_stand
