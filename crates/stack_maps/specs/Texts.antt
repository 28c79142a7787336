-- How a text is found that bytes in modified UTF-8 spell (JVMS SE 7, 4.4.7): as if they were such bytes, and then a look
-- at whether they are.
use Rattle.std.specs.Prelude.{ℕ, ◌+◌, ◌*◌, ◌%◌, Bool, nat_le, nat_lt, ◌&&◌, if◌then◌else◌, List, [], ◌∷◌, Option, None, Some}
use Rattle.std.specs.Char.Utf16.{has_unpaired_surrogate, utf16_lossy_chars}
use Rattle.std.specs.Str.{bytes_eq}
use Rattle.jvm_code.specs.Units.{units_bytes}

-- a byte behind the first of a unit
abbrev pub is_behind : ℕ → Bool
is_behind b = nat_le 128 b && nat_lt b 192

-- what the first byte of a unit says of it
abbrev pub first_bits : ℕ → ℕ
first_bits b = if nat_lt b 128 then b else if nat_lt b 224 then b % 32 else b % 16

-- the unit with six bits more, of which 16 stay
abbrev pub more_bits : ℕ → ℕ → ℕ
more_bits unit b = unit % 1024 * 64 + b % 64

-- the units, of which the first is begun
abbrev pub units_from : ℕ → List ℕ → List ℕ
units_from unit [] = unit ∷ []
units_from unit (b ∷ bs) = if is_behind b then units_from (more_bits unit b) bs else unit ∷ units_from (first_bits b) bs

abbrev pub units_of : List ℕ → List ℕ
units_of [] = []
units_of (b ∷ bs) = units_from (first_bits b) bs

-- the text of UTF-16 in which each surrogate has its partner
abbrev pub paired_text : List ℕ → Option (List ℕ)
paired_text units = if has_unpaired_surrogate units then None else Some (utf16_lossy_chars units)

-- the text of units whose bytes are these
abbrev pub text_of_units : List ℕ → List ℕ → Option (List ℕ)
text_of_units bytes units = if bytes_eq (units_bytes units) bytes then paired_text units else None

-- the text that the bytes spell
abbrev pub text_of : List ℕ → Option (List ℕ)
text_of bytes = text_of_units bytes (units_of bytes)
