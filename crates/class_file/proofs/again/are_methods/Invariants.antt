use Rattle.std.proofs.Common.{◌≡◌, ◌-◌, [], map, take}
use Rattle.jvm_code.specs.ReadClass.{methods}
use Rattle.class_file.proofs.EntriesRead.{onto}
use Rattle.class_file.proofs.again.are_methods.Given as goal

abbrev pub invariant-loop-other : goal.invariant-loop-other
invariant-loop-other l = onto (take l.other-index l.wanted) (methods l.pool (map (λ k. k.now) l.names.keys) (l.count - l.other-index) l.source.at l.source.rest) ≡ methods l.pool [] l.count l.initial.source.at l.initial.source.rest
