use Rattle.std.proofs.Common.{◌≡◌, ◌+◌, ◌++◌, true, length, drop}
use Rattle.std.specs.List.{flat_map, AllByRecursion}
use Rattle.erjang_top.specs.first_path.Accepted.{is_thin_function}
use Rattle.erjang_top.specs.first_path.ClassFile.{u2, method_bytes}
use Rattle.erjang_top.specs.first_path.ModuleClass.{constants, first_name, methods_of}
use Rattle.erjang_top.proofs.FirstPath.ClassSteps.{FitsContent}
use Rattle.erjang_top.proofs.first_path.emit.function.push_functions.Given as goal

abbrev pub invariant-loop-function : goal.invariant-loop-function
invariant-loop-function l = record {
  name_is : l.name ≡ first_name (constants l.source) + l.function-index;
  rest_thin : AllByRecursion (λ f. is_thin_function f ≡ true) (drop l.function-index l.functions);
  rest_fits : AllByRecursion FitsContent (methods_of l.source (constants l.source) l.name (drop l.function-index l.functions));
  written : l.out.items ++ flat_map method_bytes (methods_of l.source (constants l.source) l.name (drop l.function-index l.functions))
      ≡ (l.fn.out.items ++ u2 (length l.source.functions)) ++ flat_map method_bytes (methods_of l.source (constants l.source) (first_name (constants l.source)) l.source.functions);
}
