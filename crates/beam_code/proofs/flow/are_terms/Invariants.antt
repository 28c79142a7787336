use Rattle.std.proofs.Common.{◌≡◌, true}
use Rattle.beam_code.specs.Flow.{are_terms}
use Rattle.beam_code.specs.Slots.{state_of}
use Rattle.beam_code.proofs.flow.are_terms.Given as goal

abbrev pub invariant-loop-n : goal.invariant-loop-n
invariant-loop-n l = are_terms (state_of l.state) l.n ≡ true
