use Rattle.forest.specs.View.{Holds}
use Rattle.term_tests.proofs.forests.filled.Given as goal

abbrev pub invariant-loop-item : goal.invariant-loop-item
invariant-loop-item l = Holds l.forest l.tree
