use Rattle.std.proofs.Common.{◌≡◌}
use Rattle.jvm_code.specs.Reader.{times, s4}
use Rattle.class_file.proofs.EntriesRead.{onto}
use Rattle.class_file.proofs.switches.offsets.Given as goal

abbrev pub invariant-loop-left : goal.invariant-loop-left
invariant-loop-left l = onto l.offsets (times l.left s4 l.source.at l.source.rest) ≡ times l.count s4 l.initial.source.at l.initial.source.rest

abbrev pub decreases-loop-left : goal.decreases-loop-left
decreases-loop-left l = l.left
