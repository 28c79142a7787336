use Rattle.std.proofs.Common.{◌≡◌, drop, map, fold}
use Rattle.erjang_top.specs.first_path.Weights.{with_value, distinct}
use Rattle.erjang_top.specs.first_path.SeenValues.{seen_value, values_in}
use Rattle.erjang_top.proofs.first_path.values.distinct_values.Given as goal

abbrev pub invariant-loop-function : goal.invariant-loop-function
invariant-loop-function l = fold with_value (map seen_value l.values.keys) (values_in (drop l.function-index l.functions)) ≡ distinct (values_in l.functions)
