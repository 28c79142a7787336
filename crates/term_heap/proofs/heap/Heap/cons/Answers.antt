use Rattle.term_heap.specs.View.{terms_in}
use Rattle.term_heap.proofs.Profiled.{formed-cons}
use Rattle.term_heap.proofs.heap.Heap.cons.Goals as goal

pub push-requires-clause-profile : goal.push-requires-clause-profile
push-requires-clause-profile c = formed-cons (terms_in c.args.self.now) c.args.head c.args.tail c.args.self.now.profile c.requires.head c.requires.tail
