use Rattle.std.proofs.Common.{length}
use Rattle.term_heap.specs.Maps.{listed}
use Rattle.term_heap.proofs.search.+place_of.Given as goal

abbrev pub decreases-place_of : goal.decreases-place_of
decreases-place_of l = length (listed l.heap.now l.tree)
