-- What stands at an index of the constant pool (JVMS SE 7, 4.4), where it is an entry of that kind.
use Rattle.std.specs.Prelude.{ℕ, List, slice_get, Option, None, Some}
use Rattle.std.specs.Option.{option_and_then}
use Rattle.jvm_code.specs.declared.class.Constant.{Constant}
use Rattle.jvm_code.specs.declared.class.Constant.TheVariants as c

abbrev pub utf8_in : Constant → Option (List ℕ)
utf8_in (c.Utf8 bytes) = Some bytes
utf8_in _ = None

-- the bytes of the text
abbrev pub utf8_at : List Constant → ℕ → Option (List ℕ)
utf8_at pool index = option_and_then utf8_in (slice_get pool index)

abbrev pub class_in : List Constant → Constant → Option (List ℕ)
class_in pool (c.Class name) = utf8_at pool name
class_in pool _ = None

-- the name of the class
abbrev pub class_at : List Constant → ℕ → Option (List ℕ)
class_at pool index = option_and_then (class_in pool) (slice_get pool index)

abbrev pub both : Option (List ℕ) → Option (List ℕ) → Option (List ℕ × List ℕ)
both (Some a) (Some b) = Some (a, b)
both _ _ = None

abbrev pub name_and_type_in : List Constant → Constant → Option (List ℕ × List ℕ)
name_and_type_in pool (c.NameAndType name descriptor) = both (utf8_at pool name) (utf8_at pool descriptor)
name_and_type_in pool _ = None

-- the name and the descriptor
abbrev pub name_and_type_at : List Constant → ℕ → Option (List ℕ × List ℕ)
name_and_type_at pool index = option_and_then (name_and_type_in pool) (slice_get pool index)
