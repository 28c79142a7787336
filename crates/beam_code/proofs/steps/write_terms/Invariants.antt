use Rattle.std.proofs.Common.{◌≡◌, true, drop}
use Rattle.beam_code.specs.Flow.{writes_terms}
use Rattle.beam_code.specs.FlowParts.{has_all}
use Rattle.beam_code.specs.Slots.{state_of}
use Rattle.beam_code.proofs.steps.write_terms.Given as goal

abbrev pub invariant-loop-register : goal.invariant-loop-register
invariant-loop-register l = record {
  there : has_all (state_of l.state) (drop l.register-index l.registers) ≡ true;
  same : writes_terms (drop l.register-index l.registers) (state_of l.state) ≡ writes_terms l.registers (state_of l.initial.state);
}
