use Rattle.std.proofs.Common.{◌≡◌, ◌≤◌, length, reverse, take}
use Rattle.jvm_code.specs.Typing as spec
use Rattle.class_verifier.specs.Seen.{stack_seen}
use Rattle.class_verifier.proofs.operands.pop_values.Given as goal

abbrev pub invariant-loop-left : goal.invariant-loop-left
invariant-loop-left l = record {
  within : l.left ≤ length l.wanted;
  same : spec.taken (reverse (spec.places l.wanted)) (stack_seen l.initial.stack.items) ≡ spec.taken (reverse (spec.places (take l.left l.wanted))) (stack_seen l.stack.items);
}

abbrev pub decreases-loop-left : goal.decreases-loop-left
decreases-loop-left l = l.left
