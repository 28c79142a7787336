use Rattle.asm_module.proofs.ReadingLemmas.{two-kept}
use Rattle.asm_module.proofs.lists.two_by_two.Goals as goal

pub loop-first-preserved : goal.loop-first-preserved
loop-first-preserved g c =
    two-kept g.A.Reader.reads g.B.Reader.reads c.loop-first.pairs c.push.new.self c.args.terms.now c.loop-first.rest.now _ _ _ _ _
    c.in-Some.ensures.cases.0 c.in-Some-split_first.ensures.cases.0 c.in_ok-both.ensures c.in_ok-push.ensures.ok c.loop-first.invariant
