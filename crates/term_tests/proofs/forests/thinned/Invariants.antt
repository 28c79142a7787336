use Rattle.forest.specs.View.{Holds}
use Rattle.term_tests.proofs.forests.thinned.Given as goal

abbrev pub invariant-loop : goal.invariant-loop
invariant-loop l = Holds l.forest l.tree
