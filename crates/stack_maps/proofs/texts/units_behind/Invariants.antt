use Rattle.std.proofs.Common.{◌≡◌, ◌++◌, drop}
use Rattle.stack_maps.specs.Texts.{units_from}
use Rattle.stack_maps.proofs.texts.units_behind.Given as goal

abbrev pub invariant-loop-byte : goal.invariant-loop-byte
invariant-loop-byte l = l.units.items ++ units_from l.unit (drop l.byte-index l.bytes) ≡ units_from l.first l.bytes
