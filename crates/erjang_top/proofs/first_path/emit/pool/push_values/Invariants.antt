use Rattle.std.proofs.Common.{◌≡◌, ◌+◌, ◌*◌, ◌++◌, true, map, drop}
use Rattle.std.specs.List.{flat_map, AllByRecursion}
use Rattle.erjang_top.specs.first_path.Opcode.{Of}
use Rattle.erjang_top.specs.first_path.Accepted.{is_thin_source}
use Rattle.erjang_top.specs.first_path.ClassFile.{constant_bytes}
use Rattle.erjang_top.specs.first_path.ModuleClass.{first_value, values_entries}
use Rattle.erjang_top.specs.first_path.SeenValues.{seen_value}
use Rattle.erjang_top.proofs.first_path.emit.pool.push_values.Given as goal

abbrev pub invariant-loop-value : goal.invariant-loop-value
invariant-loop-value l = record {
  at_is : l.at ≡ first_value + 2 * l.value-index;
  rest_thin : AllByRecursion (λ v. is_thin_source (Of v) ≡ true) (map seen_value (drop l.value-index l.value-items));
  written : l.out.items ++ flat_map constant_bytes (values_entries l.at (map seen_value (drop l.value-index l.value-items)))
      ≡ l.initial.out.items ++ flat_map constant_bytes (values_entries first_value (map seen_value l.values.keys));
}
