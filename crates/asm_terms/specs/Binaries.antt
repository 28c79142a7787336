-- Binaries (Erlang Reference Manual, "Bit Syntax"), which are kept as they are spelled: from `<<` to the first `>>` outside
-- double quotes. Between double quotes a backslash takes the next character along.
use Rattle.std.specs.Prelude.{ℕ, Bool, false, nat_eq, ◌&&◌, if◌then◌else◌, List, [], ◌∷◌, ◌++◌, codes, drop, Option, None, Some}
use Rattle.asm_terms.specs.Runs.{begins}
use Rattle.asm_terms.specs.declared.token.Token.{Token}
use Rattle.asm_terms.specs.declared.token.Token.TheVariants as token
use Rattle.asm_terms.specs.declared.binary.Place.{Place}
use Rattle.asm_terms.specs.declared.binary.Place.TheVariants.{Outside, InQuotes, BehindBackslash}

-- the place behind a character
abbrev pub place_behind : Place → ℕ → Place
place_behind Outside c = if nat_eq c 34 then InQuotes else Outside
place_behind InQuotes c = if nat_eq c 34 then Outside else if nat_eq c 92 then BehindBackslash else InQuotes
place_behind BehindBackslash c = InQuotes

-- `>>` outside double quotes
abbrev pub ends_binary : Place → ℕ → List ℕ → Bool
ends_binary Outside c cs = nat_eq c 62 && begins (nat_eq 62) cs
ends_binary InQuotes c cs = false
ends_binary BehindBackslash c cs = false

-- the binary whose first characters are spelled, from a place in it on, and the text behind it
abbrev pub binary_from : Place → List ℕ → List ℕ → Option (Token × List ℕ)
binary_from place spelled [] = None
binary_from place spelled (c ∷ cs) =
    if ends_binary place c cs then Some (token.Opaque (spelled ++ codes ">>"), drop 1 cs)
    else binary_from (place_behind place c) (spelled ++ c ∷ []) cs

-- the binary behind `<<`
abbrev pub binary : List ℕ → Option (Token × List ℕ)
binary = binary_from Outside (codes "<<")
