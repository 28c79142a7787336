-- When two entries of the constant pool are equal, and what of one is hashed.
use Rattle.std.specs.Prelude.{ℕ, ℤ, pos, negsuc, Bool, List, [], ◌∷◌, ◌++◌}
use Rattle.std.specs.Cmp.{IsEquivalence}
use Rattle.std.specs.Cmp.Lexicographic.{on_texts_equal}
use Rattle.std.specs.Hash as fed
use Rattle.std.specs.Ordering.{on}
use Rattle.std.specs.Str.{bytes_eq}
use Rattle.jvm_code.specs.declared.class.Constant.{Constant}
use Rattle.jvm_code.specs.declared.class.Constant.TheVariants as c

abbrev pub signed : ℤ → List ℕ
signed (pos n) = 0 ∷ n ∷ []
signed (negsuc n) = 1 ∷ n ∷ []

-- the tag, and the numbers behind it
abbrev pub key : Constant → List ℕ
key (c.Utf8 bytes) = 1 ∷ bytes
key (c.Integer value) = 3 ∷ signed value
key (c.Long value) = 5 ∷ signed value
key (c.Class name) = 7 ∷ name ∷ []
key (c.Str text) = 8 ∷ text ∷ []
key (c.Methodref class name_and_type) = 10 ∷ class ∷ name_and_type ∷ []
key (c.NameAndType name descriptor) = 12 ∷ name ∷ descriptor ∷ []
key c.Gap = []

-- of one tag, with the same behind it
abbrev pub same_constant : Constant → Constant → Bool
same_constant = on key bytes_eq

pub same_constant_equiv : IsEquivalence same_constant
same_constant_equiv = on_texts_equal key

-- what is fed to a hasher
abbrev pub fed_constant : Constant → List (List ℕ)
fed_constant (c.Utf8 bytes) = fed.u8 1 ++ bytes ∷ []
fed_constant (c.Integer value) = fed.u8 3 ++ fed.i32 value
fed_constant (c.Long value) = fed.u8 5 ++ fed.i64 value
fed_constant (c.Class name) = fed.u8 7 ++ fed.u16 name
fed_constant (c.Str text) = fed.u8 8 ++ fed.u16 text
fed_constant (c.Methodref class name_and_type) = fed.u8 10 ++ (fed.u16 class ++ fed.u16 name_and_type)
fed_constant (c.NameAndType name descriptor) = fed.u8 12 ++ (fed.u16 name ++ fed.u16 descriptor)
fed_constant c.Gap = fed.u8 0
