-- Atoms without quotes (Erlang Reference Manual, "Atom"): a small letter, then letters, digits, `_` and `@`.
-- Letters are those of Latin-1.
use Rattle.std.specs.Prelude.{ℕ, Bool, nat_eq, nat_le, not, ◌||◌, ◌&&◌, if◌then◌else◌, List, length, codes, Option, None, Some}
use Rattle.std.specs.Str.{bytes_eq}
use Rattle.ej_term.specs.Atoms.{is_between, is_lower, is_name_character as is_ascii_name_character}
use Rattle.asm_terms.specs.Runs.{run, behind}
use Rattle.asm_terms.specs.declared.token.Token.{Token}
use Rattle.asm_terms.specs.declared.token.Token.TheVariants as token

abbrev pub begins_name : ℕ → Bool
begins_name c = is_lower c || is_between 223 255 c && not (nat_eq c 247)

abbrev pub is_name_character : ℕ → Bool
is_name_character c = is_ascii_name_character c || is_between 192 255 c && not (nat_eq c 215) && not (nat_eq c 247)

-- an atom has 255 characters at most
abbrev pub atom : List ℕ → List ℕ → Option (Token × List ℕ)
atom name rest = if nat_le (length name) 255 then Some (token.Atom name, rest) else None

abbrev pub word : List ℕ → List ℕ → Option (Token × List ℕ)
word name rest = if bytes_eq name (codes "fun") then Some (token.Fun, rest) else atom name rest

-- the atom, or the word `fun`, that a text with a small letter first begins with
abbrev pub name : List ℕ → Option (Token × List ℕ)
name cs = word (run is_name_character cs) (behind is_name_character cs)
