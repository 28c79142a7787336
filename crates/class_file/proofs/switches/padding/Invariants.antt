use Rattle.std.proofs.Common.{◌≡◌}
use Rattle.jvm_code.specs.Reader.{padding}
use Rattle.class_file.proofs.switches.padding.Given as goal

abbrev pub invariant-loop-left : goal.invariant-loop-left
invariant-loop-left l = padding l.left l.source.at l.source.rest ≡ padding l.count l.initial.source.at l.initial.source.rest

abbrev pub decreases-loop-left : goal.decreases-loop-left
decreases-loop-left l = l.left
