use Rattle.std.proofs.Common.{◌≡◌, drop}
use Rattle.stack_maps.specs.Full as spec
use Rattle.stack_maps.proofs.spelling.index_of.Given as goal

abbrev pub invariant-loop-class : goal.invariant-loop-class
invariant-loop-class l = spec.index_of (drop l.class-index l.classes) l.name ≡ spec.index_of l.classes l.name
