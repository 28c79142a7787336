use Rattle.std.proofs.Common.{◌≡◌, drop, Some}
use Rattle.jvm_code.specs.Verification.{fault_from}
use Rattle.class_verifier.specs.Seen.{state_seen}
use Rattle.class_verifier.specs.Told.{come}
use Rattle.class_verifier.proofs.walk.walk.Given as goal

abbrev pub invariant-loop-index : goal.invariant-loop-index
invariant-loop-index l =
    fault_from l.scope.class.now l.scope.method.now l.scope.frames (drop l.index l.code) (come l.comes (state_seen l.state))
    ≡ fault_from l.scope.class.now l.scope.method.now l.scope.frames l.scope.method.now.code (Some (state_seen l.initial.state))
