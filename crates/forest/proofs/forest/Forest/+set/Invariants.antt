use Rattle.std.proofs.Common.{length}
use Rattle.forest.specs.View.{list_of}
use Rattle.forest.proofs.forest.Forest.+set.Given as goal

abbrev pub decreases-set : goal.decreases-set
decreases-set g l = length (list_of l.self.now l.tree)
