use Rattle.std.proofs.Common.{length}
use Rattle.forest.specs.View.{list_of}
use Rattle.term_tests.proofs.forests.+depth.Given as goal

abbrev pub decreases-depth : goal.decreases-depth
decreases-depth l = length (list_of l.forest.now l.tree)
