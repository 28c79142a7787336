use Rattle.std.proofs.Common.{◌≡◌, take}
use Rattle.beam_code.proofs.kinds.copies.Given as goal

abbrev pub invariant-loop-kind : goal.invariant-loop-kind
invariant-loop-kind l = l.copies ≡ take l.kind-index l.kinds
