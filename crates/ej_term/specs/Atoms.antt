-- Which atoms are written without quotes (Erlang Reference Manual, "Atom" and "Reserved Words").
use Rattle.std.specs.Prelude.{ℕ, Bool, false, not, nat_eq, nat_le, ◌&&◌, ◌||◌, List, [], ◌∷◌, codes}
use Rattle.std.specs.List.{list_any, list_all}
use Rattle.std.specs.Str.{bytes_eq}

abbrev pub is_between : ℕ → ℕ → ℕ → Bool
is_between low high c = nat_le low c && nat_le c high

abbrev pub is_lower : ℕ → Bool
is_lower c = is_between 97 122 c

-- a letter, a digit, `_` or `@`
abbrev pub is_name_character : ℕ → Bool
is_name_character c = is_between 97 122 c || is_between 65 90 c || is_between 48 57 c || nat_eq c 95 || nat_eq c 64

-- the words that are no atom without quotes
abbrev pub reserved_words : List (List ℕ)
reserved_words =
    codes "after" ∷ codes "and" ∷ codes "andalso" ∷ codes "band" ∷ codes "begin" ∷ codes "bnot" ∷ codes "bor" ∷ codes "bsl" ∷ codes "bsr"
    ∷ codes "bxor" ∷ codes "case" ∷ codes "catch" ∷ codes "cond" ∷ codes "div" ∷ codes "end" ∷ codes "fun" ∷ codes "if" ∷ codes "let"
    ∷ codes "not" ∷ codes "of" ∷ codes "or" ∷ codes "orelse" ∷ codes "receive" ∷ codes "rem" ∷ codes "try" ∷ codes "when" ∷ codes "xor" ∷ []

abbrev pub is_reserved : List ℕ → Bool
is_reserved name = list_any (λ word. bytes_eq word name) reserved_words

-- a letter a-z, then letters, digits, `_` and `@`
abbrev pub is_name : List ℕ → Bool
is_name [] = false
is_name (c ∷ cs) = is_lower c && list_all is_name_character cs

-- an atom that is written as its characters
abbrev pub is_plain : List ℕ → Bool
is_plain name = is_name name && not (is_reserved name)
