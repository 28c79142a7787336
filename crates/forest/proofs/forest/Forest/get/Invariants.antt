use Rattle.std.proofs.Common.{◌≡◌, ◌<◌, length, slice_get}
use Rattle.forest.specs.View.{list_of, Holds}
use Rattle.forest.proofs.forest.Forest.get.Given as goal

abbrev pub invariant-loop-top : goal.invariant-loop-top
invariant-loop-top g l =
    Holds l.self l.tree × (l.place < length (list_of l.self l.tree))
    × (slice_get (list_of l.self l.tree) l.place ≡ slice_get (list_of l.self l.fn.tree) l.fn.place)

abbrev pub decreases-loop-top : goal.decreases-loop-top
decreases-loop-top g l = length (list_of l.self l.tree)
