use Rattle.std.proofs.Common.{◌≡◌, ◌++◌, drop}
use Rattle.jvm_code.specs.Typing as spec
use Rattle.class_verifier.specs.Seen.{types_seen}
use Rattle.class_verifier.proofs.operands.push_all.Given as goal

abbrev pub invariant-loop-one : goal.invariant-loop-one
invariant-loop-one l = types_seen l.places.items ++ spec.places (drop l.one-index l.given) ≡ types_seen l.initial.places.items ++ spec.places l.given
