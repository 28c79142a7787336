use Rattle.std.proofs.Common.{◌≡◌, [], map}
use Rattle.jvm_code.specs.ReadClass.{methods}
use Rattle.class_file.proofs.EntriesRead.{onto}
use Rattle.class_file.proofs.methods.methods.Given as goal

abbrev pub invariant-loop-left : goal.invariant-loop-left
invariant-loop-left l = onto l.methods (methods l.pool (map (λ k. k.now) l.names.keys) l.left l.source.at l.source.rest) ≡ methods l.pool [] l.count l.initial.source.at l.initial.source.rest

abbrev pub decreases-loop-left : goal.decreases-loop-left
decreases-loop-left l = l.left
