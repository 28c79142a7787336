use Rattle.std.proofs.Common.{◌+◌, length}
use Rattle.forest.specs.View.{list_of}
use Rattle.forest.proofs.forest.Forest.+remove.Given as goal

abbrev pub decreases-both : goal.decreases-both
decreases-both g l = length (list_of l.self.now l.left) + length (list_of l.self.now l.right)

abbrev pub decreases-remove : goal.decreases-remove
decreases-remove g l = length (list_of l.self.now l.tree)
