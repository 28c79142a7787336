use Rattle.forest.specs.View.{Holds}
use Rattle.term_tests.proofs.forests.a_thousand_edits_are_as_those_of_a_row.Given as goal

abbrev pub invariant-loop-at : goal.invariant-loop-at
invariant-loop-at g l = Holds l.forest l.tree
