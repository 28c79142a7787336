use Rattle.std.proofs.Common.{refl}
use Rattle.term_heap.specs.View.{term_of}
use Rattle.term_heap.proofs.Loading.{list-step}
use Rattle.term_heap.proofs.heap.Heap.list_onto.Goals as goal

pub loop-at-preserved : goal.loop-at-preserved
loop-at-preserved c = list-step c.args.self.now c.loop-at.self c.cons.new.self c.args.parts.now _ c.loop-at.at (term_of c.args.self.now c.args.tail) c.loop-at.list c.in_ok-list.list _
    c.loop-at-test.true c.loop-at.auto.at c.loop-at.invariant c.requires.parts refl c.cons.ensures.keeps c.in_ok-list.ensures.term
