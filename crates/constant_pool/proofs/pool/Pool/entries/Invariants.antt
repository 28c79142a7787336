use Rattle.std.proofs.Common.{◌≡◌, ◌++◌, length, reverse}
use Rattle.constant_pool.specs.Pool.{listed}
use Rattle.constant_pool.proofs.pool.Pool.entries.Given as goal

-- what is left to list, and what is listed from the end on, are all
abbrev pub invariant-loop-entry : goal.invariant-loop-entry
invariant-loop-entry l = listed l.places.entries ++ reverse l.entries.items ≡ listed l.initial.places.entries

abbrev pub decreases-loop-entry : goal.decreases-loop-entry
decreases-loop-entry l = length l.places.entries
