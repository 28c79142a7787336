use Rattle.std.proofs.Common.{◌≡◌, true, map, drop}
use Rattle.beam_code.specs.Flow.{writes_terms}
use Rattle.beam_code.specs.FlowParts.{has_all}
use Rattle.beam_code.specs.Slots.{state_of}
use Rattle.beam_code.proofs.steps.write_targets.Given as goal

abbrev pub invariant-loop-to : goal.invariant-loop-to
invariant-loop-to l = record {
  there : has_all (state_of l.state) (map (λ g. g.1) (drop l.to-index l.gets)) ≡ true;
  same : writes_terms (map (λ g. g.1) (drop l.to-index l.gets)) (state_of l.state) ≡ writes_terms (map (λ g. g.1) l.gets) (state_of l.initial.state);
}
