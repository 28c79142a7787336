-- The tokens of a text: each is the longest that its characters spell.
use Rattle.std.specs.Prelude.{Bool, false, ℕ, zero, suc, nat_eq, ◌&&◌, if◌then◌else◌, List, [], ◌∷◌, ◌++◌, length, codes, Option, None, Some, option_map, option_and_then}
use Rattle.asm_terms.specs.Runs.{after}
pub use Rattle.asm_terms.specs.Blanks.{skip_blank}
use Rattle.asm_terms.specs.Blanks.{ends_form}
use Rattle.asm_terms.specs.Numbers.{is_digit, begins_number, number}
use Rattle.asm_terms.specs.Names.{begins_name, name, atom}
use Rattle.asm_terms.specs.Quotes.{quoted}
use Rattle.asm_terms.specs.Binaries.{binary}
use Rattle.asm_terms.specs.Identifiers.{behind_hash}
use Rattle.asm_terms.specs.declared.token.Token.{Token}
use Rattle.asm_terms.specs.declared.token.Token.TheVariants as token

-- a number behind `-`
abbrev pub negative : List ℕ → Option (Token × List ℕ)
negative cs = if begins_number cs then Some (number (codes "-") cs) else None

abbrev pub atom_of : List ℕ × List ℕ → Option (Token × List ℕ)
atom_of (name, rest) = atom name rest

-- an atom behind its opening quote
abbrev pub quoted_atom : List ℕ → Option (Token × List ℕ)
quoted_atom cs = option_and_then atom_of (quoted 39 cs)

abbrev pub string_of : List ℕ × List ℕ → Token × List ℕ
string_of (characters, rest) = (token.Str characters, rest)

-- a string behind its opening quote
abbrev pub string : List ℕ → Option (Token × List ℕ)
string cs = option_map string_of (quoted 34 cs)

-- a binary behind its first `<`
abbrev pub binary_behind : List ℕ → Option (Token × List ℕ)
binary_behind cs = option_and_then binary (after (codes "<") cs)

-- a mark of one character, and `=>`
abbrev pub mark : ℕ → List ℕ → Option (Token × List ℕ)
mark c cs =
    if nat_eq c 123 then Some (token.OpenTuple, cs)
    else if nat_eq c 125 then Some (token.CloseTuple, cs)
    else if nat_eq c 91 then Some (token.OpenList, cs)
    else if nat_eq c 93 then Some (token.CloseList, cs)
    else if nat_eq c 44 then Some (token.Comma, cs)
    else if nat_eq c 124 then Some (token.Bar, cs)
    else if nat_eq c 58 then Some (token.Colon, cs)
    else if nat_eq c 47 then Some (token.Slash, cs)
    else if nat_eq c 46 then Some (token.Dot, cs)
    else if nat_eq c 61 then option_map (λ rest. (token.Arrow, rest)) (after (codes ">") cs)
    else None

-- the token that a text begins with, and the text behind it; none where its first character begins no token
abbrev pub token_at : List ℕ → Option (Token × List ℕ)
token_at [] = None
token_at (c ∷ cs) =
    if is_digit 10 c then Some (number [] (c ∷ cs))
    else if begins_name c then name (c ∷ cs)
    else if nat_eq c 45 then negative cs
    else if nat_eq c 39 then quoted_atom cs
    else if nat_eq c 34 then string cs
    else if nat_eq c 60 then binary_behind cs
    else if nat_eq c 35 then behind_hash cs
    else mark c cs

-- a string behind a string is one with it
abbrev pub joined_string : List ℕ → Token → List Token
joined_string xs (token.Str ys) = token.Str (xs ++ ys) ∷ []
joined_string xs more = token.Str xs ∷ more ∷ []

abbrev pub joined : Token → Token → List Token
joined (token.Str xs) more = joined_string xs more
joined last more = last ∷ more ∷ []

-- these tokens with one more
abbrev pub with_token : List Token → Token → List Token
with_token [] more = more ∷ []
with_token (last ∷ []) more = joined last more
with_token (first ∷ second ∷ tokens) more = first ∷ with_token (second ∷ tokens) more

-- a full stop: `.` before white space, a comment or the end
abbrev pub is_full_stop : List ℕ → Bool
is_full_stop [] = false
is_full_stop (c ∷ cs) = nat_eq c 46 && ends_form cs

-- what is read behind one token, by that reader
abbrev pub behind_token : (List Token → List ℕ → Option (List Token × List ℕ)) → List Token → Option (Token × List ℕ) → Option (List Token × List ℕ)
behind_token reader done None = None
behind_token reader done (Some (first, rest)) = reader (with_token done first) (skip_blank rest)

-- the tokens up to the full stop, behind those that are done, and the text behind it; each token takes one character
-- of the text at least
unfoldable pub tokens_from : ℕ → List Token → List ℕ → Option (List Token × List ℕ)
tokens_from zero done text = None
tokens_from (suc fuel) done [] = None
tokens_from (suc fuel) done (c ∷ cs) =
    if is_full_stop (c ∷ cs) then Some (done, cs) else behind_token (tokens_from fuel) done (token_at (c ∷ cs))

abbrev pub tokens_behind : List Token → List ℕ → Option (List Token × List ℕ)
tokens_behind done text = tokens_from (length text) done text

-- the tokens of a text's first form, without its full stop, and the text behind that; none where a character
-- begins no token, or no full stop follows
abbrev pub form_tokens : List ℕ → Option (List Token × List ℕ)
form_tokens text = tokens_behind [] (skip_blank text)
