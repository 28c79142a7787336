use Rattle.std.proofs.Common.{◌≡◌, length}
use Rattle.beam_code.specs.Kinds.{IsFront}
use Rattle.beam_code.specs.Slots.{listed}
use Rattle.beam_code.proofs.kinds.trim.Given as goal

abbrev pub invariant-loop-kinds : goal.invariant-loop-kinds
invariant-loop-kinds l = record { front : IsFront l.kinds l.initial.kinds; same : listed l.kinds ≡ listed l.initial.kinds }

abbrev pub decreases-loop-kinds : goal.decreases-loop-kinds
decreases-loop-kinds l = length l.kinds
