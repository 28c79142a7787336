use Rattle.std.proofs.Common.{◌≡◌, ◌++◌, true, map, drop}
use Rattle.std.specs.List.{flat_map, AllByRecursion}
use Rattle.erjang_top.specs.first_path.Accepted.{is_thin_function}
use Rattle.erjang_top.specs.first_path.ClassFile.{constant_bytes}
use Rattle.erjang_top.specs.first_path.ModuleClass.{name_entry}
use Rattle.erjang_top.proofs.first_path.emit.pool.push_names.Given as goal

abbrev pub invariant-loop-function : goal.invariant-loop-function
invariant-loop-function l = record {
  rest_thin : AllByRecursion (λ f. is_thin_function f ≡ true) (drop l.function-index l.functions);
  written : l.out.items ++ flat_map constant_bytes (map name_entry (drop l.function-index l.functions)) ≡ l.initial.out.items ++ flat_map constant_bytes (map name_entry l.functions);
}
