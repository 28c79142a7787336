-- What the code's parts of a method stand for.
use Rattle.std.specs.Prelude.{ℕ, List, Option}
use Rattle.class_file.specs.declared.methods.CodeContent as code
use Rattle.jvm_code.specs.ReadClass.{Content}

abbrev pub maps_of : Option (ℕ × List ℕ) → Option (ℕ × List ℕ)
maps_of maps = maps

abbrev pub content_of : code.CodeContent → Content
content_of c = record { max_stack = c.max_stack; max_locals = c.max_locals; code = c.code; maps = c.maps }

abbrev pub attribute_of : ℕ × code.CodeContent → ℕ × Content
attribute_of p = (p.0, content_of p.1)
