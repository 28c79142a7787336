use Rattle.std.proofs.Common.{◌≡◌, take}
use Rattle.stack_maps.proofs.types.copies.Given as goal

abbrev pub invariant-loop-vtype : goal.invariant-loop-vtype
invariant-loop-vtype l = l.copied ≡ take l.vtype-index l.types
