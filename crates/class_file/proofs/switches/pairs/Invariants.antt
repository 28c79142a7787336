use Rattle.std.proofs.Common.{◌≡◌}
use Rattle.jvm_code.specs.ReadOps.{pair}
use Rattle.jvm_code.specs.Reader.{times}
use Rattle.class_file.proofs.EntriesRead.{onto}
use Rattle.class_file.proofs.switches.pairs.Given as goal

abbrev pub invariant-loop-left : goal.invariant-loop-left
invariant-loop-left l = onto l.pairs (times l.left pair l.source.at l.source.rest) ≡ times l.count pair l.initial.source.at l.initial.source.rest

abbrev pub decreases-loop-left : goal.decreases-loop-left
decreases-loop-left l = l.left
