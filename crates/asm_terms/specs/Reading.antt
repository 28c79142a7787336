-- What one call of a reader does, said of the text before it and behind it.
use Rattle.std.specs.Prelude.{◌≡◌, ⊤, ℕ, Bool, true, false, List, [], ◌∷◌, Option, None, Some, IsAscii}
use Rattle.std.specs.Char.{digit_value}
use Rattle.std.specs.Str.Parse.{IsNumeral, without_leading_sign}
use Rattle.asm_terms.specs.Runs.{begins, after}
use Rattle.asm_terms.specs.Blanks.{ends_form}
use Rattle.asm_terms.specs.Numbers.{is_digit}
use Rattle.asm_terms.specs.Tokens.{is_full_stop}

-- what was read, with the text behind it
abbrev pub with_rest : {A : Type 0} → Option A → List ℕ → Option (A × List ℕ)
with_rest None rest = None
with_rest (Some x) rest = Some (x, rest)

-- the first character is taken where it passes
abbrev pub Takes : (ℕ → Bool) → List ℕ → Option ℕ → List ℕ → Type 0
Takes p old None new = (begins p old ≡ false) × (new ≡ old)
Takes p old (Some c) new = (old ≡ c ∷ new) × (p c ≡ true)

-- a word is taken where the text begins with it
abbrev pub TakesWord : List ℕ → List ℕ → Bool → List ℕ → Type 0
TakesWord word old true new = after word old ≡ Some new
TakesWord word old false new = (after word old ≡ None) × (new ≡ old)

-- a digit of that base is taken where the text begins with one, and its value told
abbrev pub TakesDigit : ℕ → List ℕ → Option ℕ → List ℕ → Type 0
TakesDigit base old None new = (begins (is_digit base) old ≡ false) × (new ≡ old)
TakesDigit base old (Some n) new = (c : ℕ) × (old ≡ c ∷ new) × (is_digit base c ≡ true) × (n ≡ digit_value c)

-- a full stop is taken where the text begins with one
abbrev pub TakesStop : List ℕ → Bool → List ℕ → Type 0
TakesStop old true new = (old ≡ 46 ∷ new) × (ends_form new ≡ true)
TakesStop old false new = (is_full_stop old ≡ false) × (new ≡ old)

-- a minus, or nothing
abbrev pub IsMinus : List ℕ → Type 0
IsMinus [] = ⊤
IsMinus (c ∷ cs) = (c ≡ 45) × (cs ≡ [])

-- a minus or none, and digits
abbrev pub IsInteger : List ℕ → Type 0
IsInteger spelled = IsAscii spelled × IsNumeral 10 (without_leading_sign spelled)
