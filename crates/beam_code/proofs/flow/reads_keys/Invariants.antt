use Rattle.std.proofs.Common.{◌≡◌, map, drop}
use Rattle.beam_code.specs.Flow.{reads_all}
use Rattle.beam_code.specs.Slots.{state_of}
use Rattle.beam_code.proofs.flow.reads_keys.Given as goal

abbrev pub invariant-loop-key : goal.invariant-loop-key
invariant-loop-key l = reads_all (state_of l.state) (map (λ g. g.0) (drop l.key-index l.gets)) ≡ reads_all (state_of l.state) (map (λ g. g.0) l.gets)
