use Rattle.std.proofs.Common.{◌≡◌, None}
use Rattle.stack_maps.specs.Read.{map_frames, last}
use Rattle.stack_maps.proofs.TimesRead.{onto}
use Rattle.stack_maps.proofs.reading.map_frames.Given as goal

-- what is read so far, and what the rest is read to, are what all is read to
abbrev pub invariant-loop-left : goal.invariant-loop-left
invariant-loop-left l = onto l.frames (map_frames l.pool l.left (last l.frames) l.source) ≡ map_frames l.pool l.count None l.initial.source

abbrev pub decreases-loop-left : goal.decreases-loop-left
decreases-loop-left l = l.left
