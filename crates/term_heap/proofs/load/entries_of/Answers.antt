use Rattle.term_heap.proofs.Rebuilding.{paired-end}
use Rattle.term_heap.proofs.load.entries_of.Goals as goal

pub returns : goal.returns
returns c = paired-end c.args.parts.now c.loop-at.at c.loop-at.entries.items _ c.loop-at-test.false c.loop-at.invariant
