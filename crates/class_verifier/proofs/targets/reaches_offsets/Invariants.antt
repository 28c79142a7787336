use Rattle.std.proofs.Common.{◌≡◌, drop, map}
use Rattle.std.specs.List.{list_all}
use Rattle.jvm_code.specs.Instruction.{target}
use Rattle.jvm_code.specs.Verification.{reaches}
use Rattle.class_verifier.specs.Seen.{state_seen}
use Rattle.class_verifier.proofs.targets.reaches_offsets.Given as goal

abbrev pub invariant-loop-offset : goal.invariant-loop-offset
invariant-loop-offset l =
    list_all (reaches l.scope.method.now l.scope.frames (state_seen l.state)) (map (target l.pc) (drop l.offset-index l.offsets))
    ≡ list_all (reaches l.scope.method.now l.scope.frames (state_seen l.state)) (map (target l.pc) l.offsets)
