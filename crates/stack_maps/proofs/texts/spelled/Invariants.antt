use Rattle.std.proofs.Common.{◌≡◌, take}
use Rattle.jvm_code.specs.Units.{units_bytes}
use Rattle.stack_maps.proofs.texts.spelled.Given as goal

abbrev pub invariant-loop-unit : goal.invariant-loop-unit
invariant-loop-unit l = l.out.items ≡ units_bytes (take l.unit-index l.units)
