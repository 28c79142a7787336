use Rattle.std.proofs.Common.{length}
use Rattle.forest.specs.View.{list_of}
use Rattle.forest.proofs.forest.Forest.+push_all.Given as goal

abbrev pub decreases-push_all : goal.decreases-push_all
decreases-push_all g l = length (list_of l.self.now l.tree)
