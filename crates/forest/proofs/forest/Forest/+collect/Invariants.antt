use Rattle.std.proofs.Common.{length}
use Rattle.forest.proofs.forest.Forest.+collect.Given as goal

abbrev pub decreases-collect : goal.decreases-collect
decreases-collect g l = length l.items.now
