use Rattle.term_tests.proofs.changed_maps.+numbered.Given as goal

abbrev pub decreases-numbered : goal.decreases-numbered
decreases-numbered l = l.last
