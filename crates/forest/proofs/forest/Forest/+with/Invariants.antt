use Rattle.std.proofs.Common.{length}
use Rattle.forest.specs.View.{list_of}
use Rattle.forest.proofs.forest.Forest.+with.Given as goal

abbrev pub decreases-with : goal.decreases-with
decreases-with g l = length (list_of l.self.now l.tree)
