-- What holds of the bytes that a module is compiled to.
use Rattle.std.specs.Prelude.{◌≡◌, ◌≤◌, ℕ, true, length, if◌then◌else◌, List, map, Option, Some}
use Rattle.beam_code.specs.declared.module.Function.{Function}
use Rattle.beam_code.specs.declared.module.Module.{Module}
use Rattle.std.specs.List.{AllZip}
use Rattle.beam_code.specs.Keys.{is_among, key_of}
use Rattle.erjang_top.specs.first_path.Weights.{weight, pool_weight}
use Rattle.erjang_top.specs.first_path.ClassFile.{Method, Class, code_bytes}
use Rattle.erjang_top.specs.first_path.ClassProfile.{ClassOf, class_at, utf8_at}
use Rattle.erjang_top.specs.first_path.Linking.{linked}
use Rattle.erjang_top.specs.Mangle.{class_name, method_name}
use Rattle.erjang_top.specs.first_path.Runs.{RunsAs}
use Rattle.erjang_top.specs.first_path.Typing.{typed}

-- public and static where the module exports the function, and else private and static
abbrev pub method_flags : Module → Function → ℕ
method_flags m f = if is_among m.exports (key_of f) then 0x0009 else 0x000A

-- the flags and the name that a function's method has
abbrev pub method_head : Module → Function → ℕ × Option (List ℕ)
method_head m f = (method_flags m f, Some (method_name f.name f.arity))

-- the flags and the name of a class's method
abbrev pub head_in : Class → Method → ℕ × Option (List ℕ)
head_in c method = (method.flags, utf8_at c.pool method.name)

-- The bytes have exactly one class, of the module's class name, with one method for each function in order,
-- named and flagged for it; it is typed and linked, and it runs as the module.
pub record Emitted (m : Module) (bytes : List ℕ) : Type 0 where
  pub class : Class
  pub is : ClassOf bytes class
  pub only : (other : Class) → ClassOf bytes other → other ≡ class
  pub name : class_at class.pool class.this ≡ Some (class_name m.name)
  pub methods : map (head_in class) class.methods ≡ map (method_head m) m.functions
  pub is_typed : typed class ≡ true
  pub is_linked : linked class ≡ true
  -- a method's code is within its function's weight, and the pool within the module's
  pub code_within : AllZip (λ f method. length (code_bytes method) ≤ weight f) m.functions class.methods
  pub pool_within : length class.pool ≤ pool_weight m
  pub runs : RunsAs m class
