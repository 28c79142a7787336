use Rattle.term_ops.proofs.ElementsLists.{list-made}
use Rattle.term_ops.proofs.elements.list.Goals as goal

pub returns-clause-list : goal.returns-clause-list
returns-clause-list c = list-made c.list_onto.result c.args.heap.now c.nil.new.self c.list_onto.new.self c.args.ids.now c.in_ok-nil.nil c.requires c.nil.ensures.keeps c.in_ok-nil.ensures.term c.list_onto.ensures.term
