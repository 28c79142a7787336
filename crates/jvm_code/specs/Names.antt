-- How names become names of classes and methods, and which bytes are such a name.
use Rattle.std.specs.Prelude.{ℕ, ◌+◌, ◌-◌, ◌*◌, ◌/◌, ◌%◌, Bool, false, nat_eq, nat_lt, nat_le, ◌&&◌, ◌||◌, if◌then◌else◌, List, [], ◌∷◌, ◌++◌, length, take, drop, codes, encode_utf8_all, Option, None, Some}
use Rattle.std.specs.List.{flat_map}
use Rattle.std.specs.Option.{option_map, option_and_then}
use Rattle.std.specs.Fmt.{decimal}
use Rattle.std.specs.Str.{bytes_eq, is_utf8}

-- A-Z, a-z, 0-9 and `_`
abbrev pub is_kept : ℕ → Bool
is_kept b = (nat_le 65 b && nat_le b 90) || (nat_le 97 b && nat_le b 122) || (nat_le 48 b && nat_le b 57) || nat_eq b 95

-- 0 to 9 and A to F
abbrev pub upper_digit : ℕ → ℕ
upper_digit d = if nat_lt d 10 then 48 + d else 55 + d

-- a byte as it is, or `$` and two upper-case hexadecimal digits
abbrev pub mangle_byte : ℕ → List ℕ
mangle_byte b = if is_kept b then b ∷ [] else 36 ∷ upper_digit (b / 16) ∷ upper_digit (b % 16) ∷ []

-- the bytes of a name in UTF-8, each mangled
abbrev pub mangle : List ℕ → List ℕ
mangle name = flat_map mangle_byte (encode_utf8_all name)

-- the class of a module
abbrev pub class_name : List ℕ → List ℕ
class_name module' = codes "erl/m/" ++ mangle module'

-- the method of a function
abbrev pub method_name : List ℕ → ℕ → List ℕ
method_name name arity = mangle name ++ codes "__" ++ decimal arity

-- ---- which bytes are such a name

-- the value of an upper-case hexadecimal digit
abbrev pub hexadecimal : ℕ → Option ℕ
hexadecimal b =
    if nat_le 48 b && nat_le b 57 then Some (b - 48)
    else if nat_le 65 b && nat_le b 70 then Some (b - 55)
    else None

-- between two bytes of a name: before a byte, behind its `$`, or behind its first digit
pub data Place : Type 0 where
  Before : Place
  Dollar : Place
  High : (digit : ℕ) → Place

abbrev pub behind_digit : Option ℕ → Option (Place × List ℕ)
behind_digit None = None
behind_digit (Some digit) = Some (High digit, [])

-- a byte that is not written as it is
abbrev pub escaped : ℕ → Option ℕ → Option (Place × List ℕ)
escaped high None = None
escaped high (Some digit) = if is_kept (16 * high + digit) then None else Some (Before, (16 * high + digit) ∷ [])

-- the place behind a byte of the mangled text, and the byte of the name that it completes
abbrev pub read_byte : Place → ℕ → Option (Place × List ℕ)
read_byte Before b =
    if nat_eq b 36 then Some (Dollar, [])
    else if is_kept b then Some (Before, b ∷ [])
    else None
read_byte Dollar b = behind_digit (hexadecimal b)
read_byte (High digit) b = escaped digit (hexadecimal b)

abbrev pub ends : Place → Option (List ℕ)
ends Before = Some []
ends Dollar = None
ends (High digit) = None

abbrev pub unmangle_from : Place → List ℕ → Option (List ℕ)
unmangle_from place [] = ends place
unmangle_from place (b ∷ bs) = option_and_then (λ (r : Place × List ℕ). option_map (λ more. r.1 ++ more) (unmangle_from r.0 bs)) (read_byte place b)

-- the bytes that are mangled so
abbrev pub unmangle : List ℕ → Option (List ℕ)
unmangle text = unmangle_from Before text

abbrev pub are_utf8 : Option (List ℕ) → Bool
are_utf8 None = false
are_utf8 (Some bytes) = is_utf8 bytes

-- the text is a mangled name
abbrev pub is_mangled : List ℕ → Bool
is_mangled text = are_utf8 (unmangle text)

-- the text is the class of a module whose name is not empty
abbrev pub is_class_name : List ℕ → Bool
is_class_name text = nat_lt 6 (length text) && bytes_eq (take 6 text) (codes "erl/m/") && is_mangled (drop 6 text)

abbrev pub is_digit : ℕ → Bool
is_digit b = nat_le 48 b && nat_le b 57

-- the place behind the last byte that is no digit; behind the bytes before, it is that so far
abbrev pub behind_last : (at found : ℕ) → List ℕ → ℕ
behind_last at found [] = found
behind_last at found (b ∷ bs) = behind_last (at + 1) (if is_digit b then found else at + 1) bs

abbrev pub digits_at : List ℕ → ℕ
digits_at text = behind_last 0 0 text

-- the number of one to three digits, of which the first is not 0 where there are several
abbrev pub small_number : List ℕ → Option ℕ
small_number (a ∷ []) = Some (a - 48)
small_number (a ∷ b ∷ []) = if nat_eq a 48 then None else Some (10 * (a - 48) + (b - 48))
small_number (a ∷ b ∷ c ∷ []) = if nat_eq a 48 then None else Some (100 * (a - 48) + 10 * (b - 48) + (c - 48))
small_number _ = None

-- what stands before a mark of two characters and a number at the end, and the number
abbrev pub numbered : List ℕ → List ℕ → Option (List ℕ × ℕ)
numbered mark text =
    if nat_lt (digits_at text) 2 then None
    else if bytes_eq (drop (digits_at text - 2) (take (digits_at text) text)) mark
    then option_map (λ n. (take (digits_at text - 2) text, n)) (small_number (drop (digits_at text) text))
    else None

abbrev pub is_function : Option (List ℕ × ℕ) → Bool
is_function None = false
is_function (Some (name, arity)) = nat_lt arity 256 && is_mangled name

-- the text is the method of a function with an arity of at most 255
abbrev pub names_function : List ℕ → Bool
names_function text = is_function (numbered (codes "__") text)

abbrev pub is_part : Option (List ℕ × ℕ) → Bool
is_part None = false
is_part (Some (text, part)) = nat_lt 0 part && names_function text

-- the text is the method of a part of a function: `$p` and a number from 1 on stand behind it
abbrev pub names_part : List ℕ → Bool
names_part text = is_part (numbered (codes "$p") text)

-- the text names a method with these flags; a part's is private
abbrev pub is_method_name : ℕ → List ℕ → Bool
is_method_name flags text = names_function text || (nat_eq flags 0x000A && names_part text)
