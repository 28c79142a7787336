use Rattle.std.proofs.Common.{◌≡◌, drop}
use Rattle.beam_code.proofs.kinds.behead.Given as goal

abbrev pub invariant-loop : goal.invariant-loop
invariant-loop l = l.kinds ≡ drop l.counter l.initial.kinds
