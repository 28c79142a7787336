-- Which texts are mangled names and names of classes.
use Rattle.std.specs.Prelude.{◌≡◌, ℕ, ◌<◌, true, List, length}
use Rattle.std.specs.Str.{all_scalars}
use Rattle.jvm_code.specs.Names.{mangle, class_name}

-- a name that is mangled to the text: Unicode scalar values
pub record NameOf (text : List ℕ) : Type 0 where
  pub name : List ℕ
  pub scalar : all_scalars name ≡ true
  pub is : text ≡ mangle name

-- a module, whose name is not empty, that has the text as its class
pub record ModuleOf (text : List ℕ) : Type 0 where
  pub name : List ℕ
  pub scalar : all_scalars name ≡ true
  pub some : 0 < length name
  pub is : text ≡ class_name name
