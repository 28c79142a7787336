use Rattle.std.proofs.Common.{◌≡◌, drop}
use Rattle.beam_code.specs.Pool.{both}
use Rattle.erjang_compile.specs.Answers.{first_over}
use Rattle.erjang_compile.proofs.literals.over_in_pairs.Given as goal

abbrev pub invariant-loop-key : goal.invariant-loop-key
invariant-loop-key l = first_over (both (drop l.key-index l.pairs)) ≡ first_over (both l.pairs)
