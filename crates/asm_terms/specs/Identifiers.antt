-- Pids and references, as they are printed: `#Pid<N.K>` and `#Ref<N.K>`, N below 2^32 and K up to 2^62.
use Rattle.std.specs.Prelude.{ℕ, nat_le, ◌^◌, ◌-◌, if◌then◌else◌, List, [], ◌∷◌, codes, Option, None, Some, option_and_then}
use Rattle.std.specs.Str.Parse.{digits_value}
use Rattle.asm_terms.specs.Runs.{run, behind, after}
use Rattle.asm_terms.specs.Numbers.{is_digit}
use Rattle.asm_terms.specs.declared.token.Token.{Token}
use Rattle.asm_terms.specs.declared.token.Token.TheVariants as token

-- the number of one digit or more, where it is not above the most, with the text behind it
abbrev pub bounded : ℕ → List ℕ → List ℕ → Option (ℕ × List ℕ)
bounded most [] rest = None
bounded most (d ∷ digits) rest = if nat_le (digits_value 10 (d ∷ digits)) most then Some (digits_value 10 (d ∷ digits), rest) else None

abbrev pub number_up_to : ℕ → List ℕ → Option (ℕ × List ℕ)
number_up_to most cs = bounded most (run (is_digit 10) cs) (behind (is_digit 10) cs)

-- a number and a word behind it, and the text behind that
abbrev pub with_word : List ℕ → ℕ × List ℕ → Option (ℕ × List ℕ)
with_word word (n, cs) = option_and_then (λ rest. Some (n, rest)) (after word cs)

-- `N.`
abbrev pub node : List ℕ → Option (ℕ × List ℕ)
node cs = option_and_then (with_word (codes ".")) (number_up_to (2 ^ 32 - 1) cs)

-- `K>`
abbrev pub last_number : List ℕ → Option (ℕ × List ℕ)
last_number cs = option_and_then (with_word (codes ">")) (number_up_to (2 ^ 62) cs)

-- `K>` behind a node
abbrev pub with_number : (ℕ → ℕ → Token) → ℕ × List ℕ → Option (Token × List ℕ)
with_number make (n, cs) = option_and_then (λ (k : ℕ × List ℕ). Some (make n k.0, k.1)) (last_number cs)

-- `N.K>`
abbrev pub pid : List ℕ → Option (Token × List ℕ)
pid cs = option_and_then (with_number token.Pid) (node cs)

abbrev pub reference : List ℕ → Option (Token × List ℕ)
reference cs = option_and_then (with_number token.Ref) (node cs)

abbrev pub pid_or_reference : Option (List ℕ) → Option (List ℕ) → Option (Token × List ℕ)
pid_or_reference (Some cs) _ = pid cs
pid_or_reference None (Some cs) = reference cs
pid_or_reference None None = None

-- what stands behind `#`: the text behind `{` if it begins with that, or the whole text
abbrev pub map_or_identifier : Option (List ℕ) → List ℕ → Option (Token × List ℕ)
map_or_identifier (Some cs) _ = Some (token.OpenMap, cs)
map_or_identifier None cs = pid_or_reference (after (codes "Pid<") cs) (after (codes "Ref<") cs)

abbrev pub behind_hash : List ℕ → Option (Token × List ℕ)
behind_hash cs = map_or_identifier (after (codes "{") cs) cs
