use Rattle.term_heap.proofs.Loading.{string-step}
use Rattle.term_heap.proofs.load.add_string.Goals as goal

pub loop-at-preserved : goal.loop-at-preserved
loop-at-preserved c = string-step c.nil.new.self c.loop-at.heap c.add_character.new.heap c.cons.new.self c.args.characters.now c.loop-at.at c.in_ok-head.head c.loop-at.list c.in_ok-list-2.list _
    c.loop-at-test.true c.loop-at.auto.at c.loop-at.invariant c.add_character.ensures.keeps c.in_ok-head.ensures.term c.cons.ensures.keeps c.in_ok-list-2.ensures.term
