use Rattle.std.proofs.Common.{◌≡◌, ◌-◌, ◌++◌, length, replicate}
use Rattle.beam_code.specs.declared.kind.Kind.TheVariants.{Undefined}
use Rattle.beam_code.proofs.kinds.lengthen.Given as goal

abbrev pub invariant-loop : goal.invariant-loop
invariant-loop l = l.kinds ≡ l.initial.kinds ++ replicate (l.counter - length l.initial.kinds) Undefined
