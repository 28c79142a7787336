use Rattle.std.proofs.Common.{◌≡◌, take, map}
use Rattle.jvm_code.specs.RuntimeRows.{type_of}
use Rattle.class_verifier.proofs.links.vtypes.Given as goal

abbrev pub invariant-loop-field : goal.invariant-loop-field
invariant-loop-field l = l.types ≡ map type_of (take l.field-index l.fields)
