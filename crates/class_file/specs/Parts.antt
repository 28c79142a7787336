-- A method in bytes, with any content in its attribute.
use Rattle.std.specs.Prelude.{ℕ, List, ◌++◌}
use Rattle.jvm_code.specs.declared.class.Method.{Method}
use Rattle.jvm_code.specs.Spelling.{u2, counted}

abbrev pub method_parts : Method → List ℕ → List ℕ
method_parts m content = u2 m.flags ++ (u2 m.name ++ (u2 m.descriptor ++ (u2 1 ++ (u2 m.code_name ++ counted content))))
