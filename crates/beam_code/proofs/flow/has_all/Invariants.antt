use Rattle.std.proofs.Common.{◌≡◌, drop}
use Rattle.beam_code.specs.FlowParts.{has_all}
use Rattle.beam_code.specs.Slots.{state_of}
use Rattle.beam_code.proofs.flow.has_all.Given as goal

abbrev pub invariant-loop-register : goal.invariant-loop-register
invariant-loop-register l = has_all (state_of l.state) (drop l.register-index l.registers) ≡ has_all (state_of l.state) l.registers
