-- Characters between quotes, and escapes (Erlang Reference Manual, "Escape Sequences").
use Rattle.std.specs.Prelude.{ℕ, zero, suc, Bool, nat_eq, nat_lt, ◌+◌, ◌*◌, ◌&&◌, ◌||◌, if◌then◌else◌, List, [], ◌∷◌, ◌++◌, length, Option, None, Some}
use Rattle.std.specs.Char.{digit_value}
use Rattle.std.specs.Str.Parse.{digits_value}
use Rattle.ej_term.specs.Atoms.{is_between}
use Rattle.asm_terms.specs.Runs.{run, behind}
use Rattle.asm_terms.specs.Numbers.{is_digit}

-- a Unicode scalar value: up to 10FFFF and no surrogate
abbrev pub is_scalar : ℕ → Bool
is_scalar n = nat_lt n 0xd800 || is_between 0xe000 0x10ffff n

-- the character that a letter stands for behind a backslash; every other character stands for itself
abbrev pub control : ℕ → ℕ
control c =
    if nat_eq c 110 then 10
    else if nat_eq c 116 then 9
    else if nat_eq c 114 then 13
    else if nat_eq c 98 then 8
    else if nat_eq c 102 then 12
    else if nat_eq c 118 then 11
    else if nat_eq c 101 then 27
    else if nat_eq c 115 then 32
    else if nat_eq c 100 then 127
    else c

-- that number with up to so many octal digits behind it, and the text behind them
abbrev pub octal : ℕ → ℕ → List ℕ → ℕ × List ℕ
octal zero n cs = (n, cs)
octal (suc more) n [] = (n, [])
octal (suc more) n (c ∷ cs) = if is_digit 8 c then octal more (n * 8 + digit_value c) cs else (n, c ∷ cs)

-- `}` behind hexadecimal digits: the scalar value that they write
abbrev pub braced : List ℕ → List ℕ → Option (ℕ × List ℕ)
braced [] rest = None
braced (d ∷ digits) [] = None
braced (d ∷ digits) (c ∷ rest) =
    if nat_eq c 125 && is_scalar (digits_value 16 (d ∷ digits)) then Some (digits_value 16 (d ∷ digits), rest) else None

-- the second of two hexadecimal digits
abbrev pub second_digit : ℕ → List ℕ → Option (ℕ × List ℕ)
second_digit c [] = None
second_digit c (d ∷ cs) = if is_digit 16 c && is_digit 16 d then Some (digit_value c * 16 + digit_value d, cs) else None

-- behind `\x`: two hexadecimal digits, or digits between braces
abbrev pub hexadecimal : List ℕ → Option (ℕ × List ℕ)
hexadecimal [] = None
hexadecimal (c ∷ cs) = if nat_eq c 123 then braced (run (is_digit 16) cs) (behind (is_digit 16) cs) else second_digit c cs

-- the character that is escaped behind a backslash, and the text behind it
abbrev pub escaped : List ℕ → Option (ℕ × List ℕ)
escaped [] = None
escaped (c ∷ cs) =
    if is_digit 8 c then Some (octal 2 (digit_value c) cs)
    else if nat_eq c 120 then hexadecimal cs
    else if nat_eq c 94 then None
    else Some (control c, cs)

-- the first character of a text between quotes
abbrev pub quoted_character : ℕ → List ℕ → Option (ℕ × List ℕ)
quoted_character c cs = if nat_eq c 92 then escaped cs else Some (c, cs)

-- what is read behind one character, by that reader
abbrev pub behind_character : (List ℕ → List ℕ → Option (List ℕ × List ℕ)) → List ℕ → Option (ℕ × List ℕ) → Option (List ℕ × List ℕ)
behind_character reader done None = None
behind_character reader done (Some (x, rest)) = reader (done ++ x ∷ []) rest

-- the characters up to the closing quote, behind those that are done, and the text behind it; each takes one character
-- of the text at least
unfoldable pub quoted_from : ℕ → ℕ → List ℕ → List ℕ → Option (List ℕ × List ℕ)
quoted_from zero quote done cs = None
quoted_from (suc fuel) quote done [] = None
quoted_from (suc fuel) quote done (c ∷ cs) =
    if nat_eq c quote then Some (done, cs) else behind_character (quoted_from fuel quote) done (quoted_character c cs)

abbrev pub quoted_behind : ℕ → List ℕ → List ℕ → Option (List ℕ × List ℕ)
quoted_behind quote done cs = quoted_from (length cs) quote done cs

-- the characters up to the closing quote, and the text behind it
abbrev pub quoted : ℕ → List ℕ → Option (List ℕ × List ℕ)
quoted quote cs = quoted_behind quote [] cs
