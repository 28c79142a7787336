use Rattle.std.proofs.Common.{◌≡◌, take, length}
use Rattle.beam_code.proofs.kinds.shorten.Given as goal

abbrev pub invariant-loop-kinds : goal.invariant-loop-kinds
invariant-loop-kinds l = take l.length l.kinds ≡ take l.length l.initial.kinds

abbrev pub decreases-loop-kinds : goal.decreases-loop-kinds
decreases-loop-kinds l = length l.kinds
