use Rattle.std.proofs.Common.{◌≡◌, nat_le, length, drop}
use Rattle.jvm_code.specs.Typing.{places}
use Rattle.class_verifier.proofs.frames.has_places.Given as goal

abbrev pub invariant-loop-vtype : goal.invariant-loop-vtype
invariant-loop-vtype l = nat_le (length (places (drop l.vtype-index l.types))) l.left ≡ nat_le (length (places l.types)) l.most
