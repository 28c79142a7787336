-- The characters of an atom's print between quotes are read back.
use Rattle.std.proofs.Common.{◌≡◌, ◌≢◌, inl, inr, ℕ, ◌<◌, ◌^◌, Bool, true, false, ◌&&◌, ◌||◌, nat_eq, nat_lt, if◌then◌else◌, List, [], ◌∷◌, ◌++◌, codes, Option, None, Some, refl, sym, ap, ◌∙◌, subst, append_assoc, append-nil, arith}
use Rattle.std.specs.Char.{digit_value}
use Rattle.std.specs.List.{flat_map, list_all}
use Rattle.std.specs.Str.{all_scalars}
use Rattle.std.specs.Str.Parse.{AllDigits, IsNumeral, digits_value}
use Rattle.std.specs.Fmt.{digits}
use Rattle.std.proofs.lemmas.Fmt.{digits_is_IsNumeral}
use Rattle.std.proofs.lemmas.Bool.{and_parts, or_cases, or_parts, eqb-true, eqb-false, lt-ltb}
use Rattle.std.proofs.lemmas.Bool.Decides.{nat_tests}
use Rattle.std.proofs.Math.Utf8.{scalar, scalar_cases}
use Rattle.ej_term.specs.TermPrint.{quoted_character}
use Rattle.asm_terms.specs.Runs.{behind}
use Rattle.asm_terms.specs.Numbers.{is_digit}
use Rattle.asm_terms.specs.Quotes as read
use Rattle.asm_terms.specs.Quotes.{is_scalar, braced, hexadecimal, escaped, quoted_behind, quoted}
use Rattle.asm_terms.proofs.QuoteLemmas.{quoted-more, quoted-step}
use Rattle.term_text.proofs.Fronts.{if-true, run-front, behind-front}

pub digits-pass : (base : ℕ) (ds : List ℕ) → AllDigits base ds → list_all (is_digit base) ds ≡ true
digits-pass base [] h = refl
digits-pass base (d ∷ ds) h = ap (λ b. b && list_all (is_digit base) ds) (lt-ltb (digit_value d) base h.0) ∙ digits-pass base ds h.1

scalar-read : (c : ℕ) → scalar c ≡ true → is_scalar c ≡ true
scalar-read c h = elim (scalar_cases c h) [
  | inl low ↦ grind (arith, nat_tests)
  | inr high ↦ grind (arith, nat_tests)
]

scalar-small : (c : ℕ) → scalar c ≡ true → c < 16 ^ 64
scalar-small c h = elim (scalar_cases c h) [
  | inl low ↦ omega arith
  | inr high ↦ omega (arith, high.1)
]

-- a character that an escape writes by its number
abbrev numbered : ℕ → List ℕ → Option (ℕ × List ℕ)
numbered n rest = if is_scalar n then Some (n, rest) else None

-- digits between braces
braced-digits : (ds rest : List ℕ) (c : ℕ) → IsNumeral 16 ds → digits_value 16 ds ≡ c → is_scalar c ≡ true → braced ds (125 ∷ rest) ≡ Some (c, rest)
braced-digits [] rest c h e s = absurd (omega (arith, h.0))
braced-digits (d ∷ ds) rest c h e s =
    subst (λ n. numbered n rest ≡ Some (c, rest)) (sym e) (if-true (is_scalar c) _ _ s)

hex-read : (c : ℕ) (rest : List ℕ) → scalar c ≡ true → hexadecimal (123 ∷ (digits 16 true c ++ 125 ∷ rest)) ≡ Some (c, rest)
hex-read c rest s =
    let n = digits_is_IsNumeral 16 true (omega arith) (omega arith) c (scalar-small c s) in
    let pass = digits-pass 16 (digits 16 true c) n.0.1 in
    ap (λ ds. braced ds (behind (is_digit 16) (digits 16 true c ++ 125 ∷ rest))) (run-front (is_digit 16) (digits 16 true c) (125 ∷ rest) pass refl)
    ∙ ap (braced (digits 16 true c)) (behind-front (is_digit 16) (digits 16 true c) (125 ∷ rest) pass refl)
    ∙ braced-digits (digits 16 true c) rest c n.0 n.1 (scalar-read c s)

-- the print of one character, by whether it is escaped and whether it is written by its number
abbrev shown : Bool → Bool → ℕ → List ℕ
shown escaped numbered c = if escaped then 92 ∷ c ∷ [] else if numbered then codes "\\x{" ++ digits 16 true c ++ codes "}" else c ∷ []

backslash : (c : ℕ) (cs : List ℕ) → (nat_eq c 39 || nat_eq c 92) ≡ true → escaped (c ∷ cs) ≡ Some (c, cs)
backslash c cs e = elim (or_cases (nat_eq c 39) (nat_eq c 92) e) [
  | inl f ↦ subst (λ d. escaped (d ∷ cs) ≡ Some (d, cs)) (sym (eqb-true c 39 f)) refl
  | inr f ↦ subst (λ d. escaped (d ∷ cs) ≡ Some (d, cs)) (sym (eqb-true c 92 f)) refl
]

itself : (c : ℕ) (cs : List ℕ) → nat_eq c 92 ≡ false → read.quoted_character c cs ≡ Some (c, cs)
itself c cs e = ap (λ b. if b then escaped cs else Some (c, cs)) e

other-quote : (c : ℕ) → nat_eq c 39 ≡ false → c ≢ 39
other-quote c e f = eqb-false c 39 e f

escaped-read : (c : ℕ) (done cs rest : List ℕ) → escaped cs ≡ Some (c, rest) → quoted_behind 39 done (92 ∷ cs) ≡ quoted_behind 39 (done ++ c ∷ []) rest
escaped-read c done cs rest e = sym (quoted-step 39 92 c done (done ++ c ∷ []) (92 ∷ cs) cs rest (Some c) refl (other-quote 92 refl) e refl refl)

shown-read : (c : ℕ) (done rest : List ℕ) (escaped numbered : Bool) → scalar c ≡ true → (nat_eq c 39 || nat_eq c 92) ≡ escaped
    → quoted_behind 39 done (shown escaped numbered c ++ rest) ≡ quoted_behind 39 (done ++ c ∷ []) rest
shown-read c done rest true numbered s e = escaped-read c done (c ∷ rest) rest (backslash c rest e)
shown-read c done rest false true s e =
    ap (λ ds. quoted_behind 39 done (92 ∷ 120 ∷ 123 ∷ ds)) (append_assoc (digits 16 true c) (125 ∷ []) rest)
    ∙ escaped-read c done (120 ∷ 123 ∷ (digits 16 true c ++ 125 ∷ rest)) rest (hex-read c rest s)
shown-read c done rest false false s e =
    let parts = or_parts (nat_eq c 39) (nat_eq c 92) e in
    sym (quoted-step 39 c c done (done ++ c ∷ []) (c ∷ rest) rest rest (Some c) refl (other-quote c parts.0) (itself c rest parts.1) refl refl)

-- one character of the print is read back
one-read : (c : ℕ) (done rest : List ℕ) → scalar c ≡ true → quoted_behind 39 done (quoted_character c ++ rest) ≡ quoted_behind 39 (done ++ c ∷ []) rest
one-read c done rest s = shown-read c done rest (nat_eq c 39 || nat_eq c 92) (nat_lt c 32 || nat_lt 126 c) s refl

all-read : (name done rest : List ℕ) → all_scalars name ≡ true → quoted_behind 39 done (flat_map quoted_character name ++ rest) ≡ quoted_behind 39 (done ++ name) rest
all-read [] done rest s = ap (λ d. quoted_behind 39 d rest) (sym (append-nil done))
all-read (c ∷ cs) done rest s =
    let parts = and_parts (scalar c) (all_scalars cs) s in
    ap (quoted_behind 39 done) (append_assoc (quoted_character c) (flat_map quoted_character cs) rest)
    ∙ one-read c done (flat_map quoted_character cs ++ rest) parts.0
    ∙ all-read cs (done ++ c ∷ []) rest parts.1
    ∙ ap (λ d. quoted_behind 39 d rest) (append_assoc done (c ∷ []) cs)

-- what is printed between quotes is read back
pub quoted-read : (name rest : List ℕ) → all_scalars name ≡ true → quoted 39 (flat_map quoted_character name ++ 39 ∷ rest) ≡ Some (name, rest)
quoted-read name rest s = all-read name [] (39 ∷ rest) s ∙ quoted-more 39 name 39 rest
