-- How names become names of classes and methods.
use Rattle.std.specs.Prelude.{ℕ, ◌+◌, ◌/◌, ◌%◌, Bool, nat_eq, nat_lt, nat_le, ◌&&◌, ◌||◌, if◌then◌else◌, List, [], ◌∷◌, ◌++◌, codes, encode_utf8_all}
use Rattle.std.specs.List.{flat_map}
use Rattle.std.specs.Fmt.{decimal}

-- A-Z, a-z, 0-9 and `_`
abbrev pub is_kept : ℕ → Bool
is_kept b = (nat_le 65 b && nat_le b 90) || (nat_le 97 b && nat_le b 122) || (nat_le 48 b && nat_le b 57) || nat_eq b 95

-- 0 to 9 and A to F
abbrev pub upper_digit : ℕ → ℕ
upper_digit d = if nat_lt d 10 then 48 + d else 55 + d

-- a byte as it is, or `$` and two upper-case hexadecimal digits
abbrev pub mangle_byte : ℕ → List ℕ
mangle_byte b = if is_kept b then b ∷ [] else 36 ∷ upper_digit (b / 16) ∷ upper_digit (b % 16) ∷ []

-- the bytes of a name, each mangled
abbrev pub mangle : List ℕ → List ℕ
mangle name = flat_map mangle_byte (encode_utf8_all name)

-- the class of a module
abbrev pub class_name : List ℕ → List ℕ
class_name module' = codes "erl/m/" ++ mangle module'

-- the method of a function
abbrev pub method_name : List ℕ → ℕ → List ℕ
method_name name arity = mangle name ++ codes "__" ++ decimal arity
