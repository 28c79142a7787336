-- How a text is split: space and comments, tokens and full stops, and so into forms.
use Rattle.std.specs.Prelude.{◌≡◌, ◌≢◌, ℕ, ◌≤◌, true, false, nat_eq, if◌then◌else◌, List, [], ◌∷◌, ◌++◌, length, Some}
use Rattle.asm_terms.specs.Blanks.{is_blank, ends_form}
use Rattle.asm_terms.specs.Quotes.{quoted_character}
use Rattle.asm_terms.specs.Tokens.{token_at, is_full_stop, joined}
use Rattle.asm_terms.specs.declared.token.Token.{Token}
use Rattle.asm_terms.specs.declared.token.Token.TheVariants as token

-- the text behind a comment, which ends behind the next character 10, or where the text ends
abbrev pub behind_line : List ℕ → List ℕ
behind_line [] = []
behind_line (c ∷ cs) = if nat_eq c 10 then cs else behind_line cs

-- a text begins with all that space and those comments, and this text is left behind them
pub data IsSpace : List ℕ → List ℕ → Type 0 where
  at_end : IsSpace [] []
  at_token : (c : ℕ) (cs : List ℕ) → is_blank c ≡ false → nat_eq c 37 ≡ false → IsSpace (c ∷ cs) (c ∷ cs)
  blank : (c : ℕ) (cs rest : List ℕ) → is_blank c ≡ true → IsSpace cs rest → IsSpace (c ∷ cs) rest
  -- from `%` to the end of the line
  comment : (cs rest : List ℕ) → IsSpace (behind_line cs) rest → IsSpace (37 ∷ cs) rest

-- these characters stand before the closing quote, each as itself or as an escape, and this text is left behind it
pub data AreQuoted : ℕ → List ℕ → List ℕ → List ℕ → Type 0 where
  closing : (quote : ℕ) (rest : List ℕ) → AreQuoted quote (quote ∷ rest) [] rest
  character : (quote c : ℕ) (cs : List ℕ) (x : ℕ) (behind characters rest : List ℕ)
      → c ≢ quote → quoted_character c cs ≡ Some (x, behind) → AreQuoted quote behind characters rest → AreQuoted quote (c ∷ cs) (x ∷ characters) rest

-- a text begins with that token, the longest that its characters spell, and this text is left behind it
pub data IsToken : List ℕ → Token → List ℕ → Type 0 where
  -- an atom in single quotes has 255 characters at most
  quoted_atom : (cs name rest : List ℕ) → AreQuoted 39 cs name rest → length name ≤ 255 → IsToken (39 ∷ cs) (token.Atom name) rest
  string : (cs characters rest : List ℕ) → AreQuoted 34 cs characters rest → IsToken (34 ∷ cs) (token.Str characters) rest
  -- a token that begins with no quote
  other : (c : ℕ) (cs : List ℕ) (first : Token) (rest : List ℕ) → c ≢ 39 → c ≢ 34 → token_at (c ∷ cs) ≡ Some (first, rest) → IsToken (c ∷ cs) first rest

-- a text is those tokens and a full stop, which is a `.` before white space, a comment or the end, and this text is left
pub data AreTokens : List ℕ → List Token → List ℕ → Type 0 where
  full_stop : (rest : List ℕ) → ends_form rest ≡ true → AreTokens (46 ∷ rest) [] rest
  more : (text : List ℕ) (first : Token) (behind next : List ℕ) (tokens : List Token) (rest : List ℕ)
      → is_full_stop text ≡ false → IsToken text first behind → IsSpace behind next → AreTokens next tokens rest → AreTokens text (first ∷ tokens) rest

-- a token before others; a string before a string is one with it
abbrev pub before : Token → List Token → List Token
before first [] = first ∷ []
before first (second ∷ tokens) = joined first second ++ tokens

abbrev pub with_joined_strings : List Token → List Token
with_joined_strings [] = []
with_joined_strings (first ∷ tokens) = before first (with_joined_strings tokens)

-- the first form of a text has these tokens, in which adjacent strings are one, and this text is left behind its full stop
pub record HasTokens (text : List ℕ) (tokens : List Token) (rest : List ℕ) : Type 0 where
  pub start : List ℕ
  pub space : IsSpace text start
  pub each : List Token
  pub split : AreTokens start each rest
  pub joins : tokens ≡ with_joined_strings each

-- no row of tokens and a full stop stands first in a text
abbrev pub HasNoTokens : List ℕ → Type 0
HasNoTokens text = (tokens : List Token) (rest : List ℕ) → HasTokens text tokens rest → ⊥

-- a text is no more than space and comments
abbrev pub IsEnd : List ℕ → Type 0
IsEnd text = IsSpace text []

abbrev pub HasMore : List ℕ → Type 0
HasMore text = IsEnd text → ⊥
