-- What a turn of a module's class rests on: its pool's entries and its methods.
use Rattle.std.proofs.Common.{◌≡◌, true, Some, refl}
use Rattle.std.specs.List.{list_any}
use Rattle.beam_code.specs.declared.module.Module.{Module}
use Rattle.erjang_top.specs.first_path.Opcode.{Value}
use Rattle.erjang_top.specs.first_path.Weights.{same_value}
use Rattle.erjang_top.specs.first_path.ClassFile.{Class}
use Rattle.erjang_top.specs.first_path.ClassProfile.{class_at}
use Rattle.erjang_top.specs.Mangle.{class_name}
use Rattle.erjang_top.specs.first_path.ModuleClass.{constants, index_of, first_name, methods_of, class_of}
use Rattle.erjang_top.proofs.FirstPath.ClassNames.{Named, names-here}
use Rattle.erjang_top.proofs.FirstPath.ClassPool.{HasRuntime, runtime-here, name-here}
use Rattle.erjang_top.proofs.FirstPath.ModuleValues.{HasValue, value-here}

pub record IsOf (m : Module) (c : Class) : Type 0 where
  pub name : class_at c.pool c.this ≡ Some (class_name m.name)
  pub runtime : HasRuntime c.pool
  pub entries : (value : Value) → list_any (same_value value) (constants m) ≡ true → HasValue c.pool (index_of (constants m) value) value
  pub names : Named c.pool (first_name (constants m)) m.functions
  pub methods : c.methods ≡ methods_of m (constants m) (first_name (constants m)) m.functions

pub is-of : (m : Module) → IsOf m (class_of m)
is-of m = record { name = name-here m; runtime = runtime-here m; entries = value-here m; names = names-here m; methods = refl }
