-- Fronts of a text: a text that passes before one that does not, and texts that end a token.
use Rattle.std.proofs.Common.{◌≡◌, ℕ, Bool, true, false, if◌then◌else◌, List, [], ◌∷◌, ◌++◌, Some, refl, ap, ◌∙◌}
use Rattle.std.specs.List.{list_all}
use Rattle.std.proofs.lemmas.Bool.{and_parts}
use Rattle.asm_terms.specs.Runs.{run, behind, begins}
use Rattle.asm_terms.specs.Tokens.{token_at, is_full_stop, skip_blank}
use Rattle.asm_terms.specs.declared.token.Token.{Token}
use Rattle.asm_terms.specs.Numbers.{is_digit, begins_fraction}
use Rattle.asm_terms.specs.Names.{is_name_character}

pub if-true : {A : Type 0} (b : Bool) (x y : A) → b ≡ true → (if b then x else y) ≡ x
if-true b x y e = ap (λ c. if c then x else y) e

pub if-false : {A : Type 0} (b : Bool) (x y : A) → b ≡ false → (if b then x else y) ≡ y
if-false b x y e = ap (λ c. if c then x else y) e

pub run-front : (p : ℕ → Bool) (xs rest : List ℕ) → list_all p xs ≡ true → begins p rest ≡ false → run p (xs ++ rest) ≡ xs
run-front p [] [] all stop = refl
run-front p [] (c ∷ cs) all stop = if-false (p c) _ _ stop
run-front p (x ∷ xs) rest all stop =
    let parts = and_parts (p x) (list_all p xs) all in
    if-true (p x) _ _ parts.0 ∙ ap (λ ys. x ∷ ys) (run-front p xs rest parts.1 stop)

pub behind-front : (p : ℕ → Bool) (xs rest : List ℕ) → list_all p xs ≡ true → begins p rest ≡ false → behind p (xs ++ rest) ≡ rest
behind-front p [] [] all stop = refl
behind-front p [] (c ∷ cs) all stop = if-false (p c) _ _ stop
behind-front p (x ∷ xs) rest all stop =
    let parts = and_parts (p x) (list_all p xs) all in
    if-true (p x) _ _ parts.0 ∙ behind-front p xs rest parts.1 stop

-- a text before which each token of a print ends
pub record Stops (rest : List ℕ) : Type 0 where
  pub no_digit : begins (is_digit 10) rest ≡ false
  pub no_fraction : begins_fraction rest ≡ false
  pub no_name : begins is_name_character rest ≡ false
  pub no_blank : skip_blank rest ≡ rest

-- a text begins with that token, and neither with space nor with a full stop, whatever may end it
pub record Begins (text : List ℕ) (t : Token) : Type 0 where
  pub solid : (rest : List ℕ) → skip_blank (text ++ rest) ≡ text ++ rest
  pub goes_on : (rest : List ℕ) → is_full_stop (text ++ rest) ≡ false
  pub token : (rest : List ℕ) → Stops rest → token_at (text ++ rest) ≡ Some (t, rest)
