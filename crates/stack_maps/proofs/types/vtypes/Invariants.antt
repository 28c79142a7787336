use Rattle.std.proofs.Common.{◌≡◌}
use Rattle.stack_maps.specs.Read.{times, vtype}
use Rattle.stack_maps.proofs.TimesRead.{onto}
use Rattle.stack_maps.proofs.types.vtypes.Given as goal

-- what is read so far, and what the rest is read to, are what all is read to
abbrev pub invariant-loop-left : goal.invariant-loop-left
invariant-loop-left l = onto l.types (times l.left (vtype l.pool) l.source) ≡ times l.count (vtype l.pool) l.initial.source

abbrev pub decreases-loop-left : goal.decreases-loop-left
decreases-loop-left l = l.left
