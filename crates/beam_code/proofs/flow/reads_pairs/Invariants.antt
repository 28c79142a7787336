use Rattle.std.proofs.Common.{◌≡◌, drop}
use Rattle.beam_code.specs.Flow.{reads_pairs}
use Rattle.beam_code.specs.Slots.{state_of}
use Rattle.beam_code.proofs.flow.reads_pairs.Given as goal

abbrev pub invariant-loop-key : goal.invariant-loop-key
invariant-loop-key l = reads_pairs (state_of l.state) (drop l.key-index l.pairs) ≡ reads_pairs (state_of l.state) l.pairs
