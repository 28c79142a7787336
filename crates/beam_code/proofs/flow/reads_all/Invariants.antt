use Rattle.std.proofs.Common.{◌≡◌, drop}
use Rattle.beam_code.specs.Flow.{reads_all}
use Rattle.beam_code.specs.Slots.{state_of}
use Rattle.beam_code.proofs.flow.reads_all.Given as goal

abbrev pub invariant-loop-source : goal.invariant-loop-source
invariant-loop-source l = reads_all (state_of l.state) (drop l.source-index l.sources) ≡ reads_all (state_of l.state) l.sources
