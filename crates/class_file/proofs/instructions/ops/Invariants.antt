use Rattle.std.proofs.Common.{length}
use Rattle.jvm_code.specs.ReadOps.{ops}
use Rattle.class_file.proofs.OpsRead.{Goes}
use Rattle.class_file.proofs.instructions.ops.Given as goal

abbrev pub invariant-loop-source : goal.invariant-loop-source
invariant-loop-source l = Goes l.pool l.start (length l.code) l.ops l.source.at l.source.rest (ops (length l.code) l.pool l.start 0 l.code)

abbrev pub decreases-loop-source : goal.decreases-loop-source
decreases-loop-source l = length l.source.rest
