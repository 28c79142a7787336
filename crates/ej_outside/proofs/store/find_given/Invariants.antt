use Rattle.std.proofs.Common.{◌≡◌, drop}
use Rattle.std.specs.Ordering.{nat_cmp}
use Rattle.std.specs.Cmp.Lexicographic.{slice_cmp}
use Rattle.std.specs.FinMap.{find}
use Rattle.ej_outside.specs.Store.{given_files}
use Rattle.ej_outside.proofs.store.find_given.Given as goal

-- the name is to be found among the files that are left
abbrev pub invariant-loop-file : goal.invariant-loop-file
invariant-loop-file l = find (slice_cmp nat_cmp) l.name (given_files (drop l.file-index l.given)) ≡ find (slice_cmp nat_cmp) l.name (given_files l.given)
