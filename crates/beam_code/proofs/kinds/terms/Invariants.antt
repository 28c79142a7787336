use Rattle.std.proofs.Common.{◌≡◌, replicate}
use Rattle.beam_code.specs.declared.kind.Kind.TheVariants.{Term}
use Rattle.beam_code.proofs.kinds.terms.Given as goal

abbrev pub invariant-loop : goal.invariant-loop
invariant-loop l = l.kinds ≡ replicate l.counter Term
