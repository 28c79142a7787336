use Rattle.std.proofs.Common.{◌≡◌, ◌++◌, take}
use Rattle.std.specs.List.{AllByRecursion}
use Rattle.jvm_code.specs.StackMaps.{IsInfo, infos_bytes}
use Rattle.stack_maps.specs.Full.{infos_of}
use Rattle.stack_maps.proofs.spelling.push_types.Given as goal

abbrev pub invariant-loop-vtype : goal.invariant-loop-vtype
invariant-loop-vtype l = record {
  bytes : l.out.items ≡ l.initial.out.items ++ infos_bytes (infos_of l.classes (take l.vtype-index l.types));
  fits : AllByRecursion IsInfo (infos_of l.classes (take l.vtype-index l.types));
}
