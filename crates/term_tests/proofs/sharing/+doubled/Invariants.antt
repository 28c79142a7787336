use Rattle.term_tests.proofs.sharing.+doubled.Given as goal

abbrev pub decreases-doubled : goal.decreases-doubled
decreases-doubled l = l.times
