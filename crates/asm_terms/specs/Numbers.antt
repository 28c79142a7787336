-- Integers and floats (Erlang Reference Manual, "Numbers"): an integer is digits, with `-` directly before them or not;
-- behind `.` and digits, and then `e` or `E`, a sign or none and digits, or nothing, it is a float.
use Rattle.std.specs.Prelude.{ℕ, Bool, false, nat_eq, nat_lt, ◌||◌, ◌&&◌, if◌then◌else◌, List, [], ◌∷◌, ◌++◌, Option, None, Some, drop}
use Rattle.std.specs.Char.{digit_value}
use Rattle.std.specs.Str.Parse.{signed_digits_value}
use Rattle.ej_term.specs.Term.{has_64_bits}
use Rattle.asm_terms.specs.Runs.{run, behind, begins}
use Rattle.asm_terms.specs.declared.token.Token.{Token}
use Rattle.asm_terms.specs.declared.token.Token.TheVariants as token

-- a digit of that base, from 2 to 36: `0` to `9`, and then the letters, small or capital
abbrev pub is_digit : ℕ → ℕ → Bool
is_digit base c = nat_lt (digit_value c) base

abbrev pub begins_number : List ℕ → Bool
begins_number = begins (is_digit 10)

-- the integer that a minus, or none, and decimal digits write; one of more than 64 bits is kept as it is spelled
abbrev pub integer : List ℕ → Token
integer spelled = if has_64_bits (signed_digits_value 10 spelled) then token.Int (signed_digits_value 10 spelled) else token.Opaque spelled

abbrev pub is_exponent_mark : ℕ → Bool
is_exponent_mark c = nat_eq c 101 || nat_eq c 69

abbrev pub is_sign : ℕ → Bool
is_sign c = nat_eq c 43 || nat_eq c 45

-- the exponent behind its mark and its sign, with them, and the text behind it
abbrev pub exponent_digits : List ℕ → List ℕ → Option (List ℕ × List ℕ)
exponent_digits before cs = if begins_number cs then Some (before ++ run (is_digit 10) cs, behind (is_digit 10) cs) else None

abbrev pub signed_exponent : ℕ → List ℕ → Option (List ℕ × List ℕ)
signed_exponent mark [] = None
signed_exponent mark (c ∷ cs) = if is_sign c then exponent_digits (mark ∷ c ∷ []) cs else exponent_digits (mark ∷ []) (c ∷ cs)

-- the exponent that a text begins with, and the text behind it
abbrev pub exponent : List ℕ → Option (List ℕ × List ℕ)
exponent [] = None
exponent (c ∷ cs) = if is_exponent_mark c then signed_exponent c cs else None

-- a float's characters, with its exponent's if it has one, and the text behind it
abbrev pub with_exponent : List ℕ → Option (List ℕ × List ℕ) → List ℕ → List ℕ × List ℕ
with_exponent spelled None rest = (spelled, rest)
with_exponent spelled (Some (exponent, behind_exponent)) rest = (spelled ++ exponent, behind_exponent)

abbrev pub float : List ℕ × List ℕ → Token × List ℕ
float (spelled, rest) = (token.Opaque spelled, rest)

-- a float whose characters up to the point are spelled
abbrev pub with_fraction : List ℕ → List ℕ → Token × List ℕ
with_fraction spelled cs =
    float (with_exponent (spelled ++ run (is_digit 10) cs) (exponent (behind (is_digit 10) cs)) (behind (is_digit 10) cs))

-- `.` and a digit
abbrev pub begins_fraction : List ℕ → Bool
begins_fraction [] = false
begins_fraction (c ∷ cs) = nat_eq c 46 && begins_number cs

-- the number whose characters up to its first digits' end are spelled, and the text behind it
abbrev pub whole_or_float : List ℕ → List ℕ → Token × List ℕ
whole_or_float spelled rest = if begins_fraction rest then with_fraction (spelled ++ 46 ∷ []) (drop 1 rest) else (integer spelled, rest)

-- the number of a minus, or none, and a text of at least one digit, and the text behind it
abbrev pub number : List ℕ → List ℕ → Token × List ℕ
number minus cs = whole_or_float (minus ++ run (is_digit 10) cs) (behind (is_digit 10) cs)
