use Rattle.std.proofs.Common.{◌≡◌, ◌++◌, map, drop}
use Rattle.std.specs.List.{flat_map, AllByRecursion}
use Rattle.erjang_top.specs.first_path.ClassFile.{constant_bytes}
use Rattle.erjang_top.specs.first_path.Written.{constant, fits}
use Rattle.erjang_top.proofs.first_path.emit.constant.push_constants.Given as goal

abbrev pub invariant-loop-entry : goal.invariant-loop-entry
invariant-loop-entry l = record {
  rest_fits : AllByRecursion fits (drop l.entry-index l.entries);
  written : l.out.items ++ flat_map constant_bytes (map constant (drop l.entry-index l.entries)) ≡ l.initial.out.items ++ flat_map constant_bytes (map constant l.entries);
}
