use Rattle.std.proofs.Common.{◌≡◌, ◌-◌, length}
use Rattle.jvm_code.specs.Typing as spec
use Rattle.class_verifier.specs.Seen.{types_seen}
use Rattle.class_verifier.proofs.locals.fill.Given as goal

abbrev pub invariant-loop-locals : goal.invariant-loop-locals
invariant-loop-locals l = spec.filled l.count (types_seen l.locals.items) ≡ spec.filled l.count (types_seen l.initial.locals.items)

abbrev pub decreases-loop-locals : goal.decreases-loop-locals
decreases-loop-locals l = l.count - length l.locals.items
