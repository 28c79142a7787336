use Rattle.std.proofs.Common.{◌≡◌, map, drop}
use Rattle.beam_code.specs.FlowParts.{has_all}
use Rattle.beam_code.specs.Slots.{state_of}
use Rattle.beam_code.proofs.flow.has_targets.Given as goal

abbrev pub invariant-loop-to : goal.invariant-loop-to
invariant-loop-to l = has_all (state_of l.state) (map (λ g. g.1) (drop l.to-index l.gets)) ≡ has_all (state_of l.state) (map (λ g. g.1) l.gets)
