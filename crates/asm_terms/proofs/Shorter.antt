-- What is read leaves no more text than there was.
use Rattle.std.proofs.Common.{ℕ, zero, suc, ◌≤◌, ◌+◌, ◌*◌, Bool, true, false, nat_eq, List, [], ◌∷◌, length, if◌then◌else◌, Option, Some, None, IfSome, arith, ◌&&◌}
use Rattle.std.specs.Char.{digit_value}
use Rattle.std.specs.Str.Parse.{digits_value}
use Rattle.asm_terms.specs.Runs.{run, behind}
use Rattle.asm_terms.specs.Numbers.{is_digit}
use Rattle.asm_terms.specs.Quotes.{octal, braced, second_digit, hexadecimal, escaped, quoted_character, is_scalar}

abbrev pub Within : {A : Type 0} → ℕ → Option (A × List ℕ) → Type 0
Within most o = IfSome o (λ r. length r.1 ≤ most)

pub either : {A : Type 0} (P : A → Type 0) (b : Bool) {x y : A} → P x → P y → P (if b then x else y)
either P true h k = h
either P false h k = k

pub behind-within : (p : ℕ → Bool) (cs : List ℕ) → length (behind p cs) ≤ length cs
behind-within p [] = omega arith
behind-within p (c ∷ cs) = either (λ x. length x ≤ length (c ∷ cs)) (p c) (omega (arith, behind-within p cs)) (omega arith)

octal-within : (more n : ℕ) (cs : List ℕ) → length (octal more n cs).1 ≤ length cs
octal-within zero n cs = omega arith
octal-within (suc more) n [] = omega arith
octal-within (suc more) n (c ∷ cs) = either (λ (x : ℕ × List ℕ). length x.1 ≤ length (c ∷ cs)) (is_digit 8 c) (omega (arith, octal-within more (n * 8 + digit_value c) cs)) (omega arith)

braced-within : (most : ℕ) (digits rest : List ℕ) → length rest ≤ most → Within most (braced digits rest)
braced-within most [] rest h = tt
braced-within most (d ∷ digits) [] h = tt
braced-within most (d ∷ digits) (c ∷ rest) h = either (Within most) (nat_eq c 125 && is_scalar (digits_value 16 (d ∷ digits))) (omega (arith, h)) tt

second-within : (c : ℕ) (cs : List ℕ) → Within (length cs) (second_digit c cs)
second-within c [] = tt
second-within c (d ∷ cs) = either (Within (length (d ∷ cs))) (is_digit 16 c && is_digit 16 d) (omega arith) tt

pub weaken : {A : Type 0} (least most : ℕ) (o : Option (A × List ℕ)) → least ≤ most → Within least o → Within most o
weaken least most None h w = tt
weaken least most (Some r) h w = omega (arith, w, h)

hexadecimal-within : (cs : List ℕ) → Within (length cs) (hexadecimal cs)
hexadecimal-within [] = tt
hexadecimal-within (c ∷ cs) = either (Within (length (c ∷ cs))) (nat_eq c 123)
    (braced-within (length (c ∷ cs)) (run (is_digit 16) cs) (behind (is_digit 16) cs) (omega (arith, behind-within (is_digit 16) cs)))
    (weaken (length cs) (length (c ∷ cs)) (second_digit c cs) (omega arith) (second-within c cs))

escaped-within : (cs : List ℕ) → Within (length cs) (escaped cs)
escaped-within [] = tt
escaped-within (c ∷ cs) = either (Within (length (c ∷ cs))) (is_digit 8 c)
    (omega (arith, octal-within 2 (digit_value c) cs))
    (either (Within (length (c ∷ cs))) (nat_eq c 120)
    (weaken (length cs) (length (c ∷ cs)) (hexadecimal cs) (omega arith) (hexadecimal-within cs))
    (either (Within (length (c ∷ cs))) (nat_eq c 94) tt (omega arith)))

pub character-within : (c : ℕ) (cs : List ℕ) → Within (length cs) (quoted_character c cs)
character-within c cs = either (Within (length cs)) (nat_eq c 92) (escaped-within cs) (omega arith)
