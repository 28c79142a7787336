use Rattle.std.proofs.Common.{sym, ◌∙◌}
use Rattle.beam_code.proofs.KindLists.{trimmed-more}
use Rattle.beam_code.proofs.kinds.trim.Goals as goal

pub loop-kinds-preserved-in-loop-kinds-2 : goal.loop-kinds-preserved-in-loop-kinds-2
loop-kinds-preserved-in-loop-kinds-2 c =
    let kept = trimmed-more c.pop.result c.pop.new.self c.loop-kinds.kinds c.args.kinds.now c.pop.ensures (sym c.ends_undefined.ensures ∙ c.loop-kinds-test.true) c.loop-kinds.invariant.front c.loop-kinds.invariant.same in
    record { front = kept.0; same = kept.1 }
