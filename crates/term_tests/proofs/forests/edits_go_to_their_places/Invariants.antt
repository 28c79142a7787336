use Rattle.forest.specs.View.{Holds}
use Rattle.term_tests.proofs.forests.edits_go_to_their_places.Given as goal

abbrev pub invariant-loop-at : goal.invariant-loop-at
invariant-loop-at g l = Holds l.forest l.tree
