-- The prints of integers, pids and references begin with the tokens that they are of.
use Rattle.std.proofs.Common.{◌≡◌, ℕ, suc, ◌<◌, ◌^◌, ◌-◌, ◌==◌, ℤ, pos, negsuc, neg_ℤ, cond, drop, Bool, true, false, ◌&&◌, nat_eq, nat_lt, nat_le, if◌then◌else◌, List, [], ◌∷◌, ◌++◌, codes, Option, None, Some, option_and_then, refl, sym, ap, ◌∙◌, subst, append_assoc, arith}
use Rattle.std.specs.Char.{digit_value}
use Rattle.std.specs.Fmt.{decimal, signed_decimal}
use Rattle.std.specs.Str.Parse.{AllDigits, IsNumeral, digits_value, signed_digits_value, without_leading_plus}
use Rattle.std.proofs.lemmas.Bool.{le-leb, lt-ltb, ltb-true, leb-true}
use Rattle.std.proofs.lemmas.Bool.Decides.{nat_tests}
use Rattle.std.proofs.lemmas.Fmt.{decimal_is_IsNumeral_wide}
use Rattle.ej_term.specs.TermPrint.{print_numbers}
use Rattle.asm_terms.specs.Runs.{behind, begins}
use Rattle.asm_terms.specs.Blanks.{is_blank, ends_form}
use Rattle.ej_term.specs.Term.{has_64_bits}
use Rattle.asm_terms.specs.Numbers.{is_digit, integer, begins_fraction, number, whole_or_float}
use Rattle.asm_terms.specs.Identifiers.{bounded, number_up_to, with_word, node, last_number, with_number, pid, reference}
use Rattle.asm_terms.specs.declared.token.Token.{Token}
use Rattle.asm_terms.specs.declared.token.Token.TheVariants as token
use Rattle.asm_terms.proofs.DigitLemmas.{plain_digits}
use Rattle.term_text.proofs.Fronts.{if-true, if-false, run-front, behind-front, Begins}
use Rattle.term_text.proofs.Quoted.{digits-pass}

digit-true : (d : ℕ) → digit_value d < 10 → is_digit 10 d ≡ true
digit-true d h = lt-ltb (digit_value d) 10 h

no-comment : (d : ℕ) → digit_value d < 10 → nat_eq d 37 ≡ false
no-comment d h = grind (arith, nat_tests)

no-blank : (d : ℕ) → digit_value d < 10 → is_blank d ≡ false
no-blank d h = grind (arith, nat_tests)

no-stop : (d : ℕ) → digit_value d < 10 → nat_eq d 46 ≡ false
no-stop d h = grind (arith, nat_tests)

no-minus : (d : ℕ) → digit_value d < 10 → (d == 45) ≡ false
no-minus d h = grind arith

-- ---- integers

number-front : (minus ds rest : List ℕ) → AllDigits 10 ds → begins (is_digit 10) rest ≡ false → begins_fraction rest ≡ false → number minus (ds ++ rest) ≡ (integer (minus ++ ds), rest)
number-front minus ds rest all stop whole =
    let pass = digits-pass 10 ds all in
    ap (λ front. whole_or_float (minus ++ front) (behind (is_digit 10) (ds ++ rest))) (run-front (is_digit 10) ds rest pass stop)
    ∙ ap (whole_or_float (minus ++ ds)) (behind-front (is_digit 10) ds rest pass stop)
    ∙ if-false (begins_fraction rest) _ _ whole

numeral-begins : (ds : List ℕ) (t : Token) → IsNumeral 10 ds → integer ds ≡ t → Begins ds t
numeral-begins [] t h e = absurd (omega (arith, h.0))
numeral-begins (d ∷ ds) t h e = record {
  solid = λ rest. if-false (nat_eq d 37) _ _ (no-comment d h.1.0) ∙ if-false (is_blank d) _ _ (no-blank d h.1.0);
  goes_on = λ rest. ap (λ b. b && ends_form (ds ++ rest)) (no-stop d h.1.0);
  token = λ rest stop. if-true (is_digit 10 d) _ _ (digit-true d h.1.0) ∙ ap Some (number-front [] (d ∷ ds) rest h.1 stop.no_digit stop.no_fraction) ∙ ap (λ u. Some (u, rest)) e;
}

negative-begins : (ds : List ℕ) (t : Token) → IsNumeral 10 ds → integer (45 ∷ ds) ≡ t → Begins (45 ∷ ds) t
negative-begins [] t h e = absurd (omega (arith, h.0))
negative-begins (d ∷ ds) t h e = record {
  solid = λ rest. refl;
  goes_on = λ rest. refl;
  token = λ rest stop. if-true (is_digit 10 d) _ _ (digit-true d h.1.0) ∙ ap Some (number-front (codes "-") (d ∷ ds) rest h.1 stop.no_digit stop.no_fraction) ∙ ap (λ u. Some (u, rest)) e;
}

-- what digits write behind no sign
abbrev signed_by : Bool → List ℕ → ℤ
signed_by minus ds = cond minus (neg_ℤ (pos (digits_value 10 (cond minus (drop 1 ds) (without_leading_plus ds))))) (pos (digits_value 10 (cond minus (drop 1 ds) (without_leading_plus ds))))

unsigned : (ds : List ℕ) → IsNumeral 10 ds → signed_digits_value 10 ds ≡ pos (digits_value 10 ds)
unsigned [] h = absurd (omega (arith, h.0))
unsigned (d ∷ ds) h = ap (λ b. signed_by b (d ∷ ds)) (no-minus d h.1.0) ∙ ap (λ xs. pos (digits_value 10 xs)) (plain_digits 10 (d ∷ ds) (omega arith) h.1)

kept : (spelled : List ℕ) (n : ℤ) → signed_digits_value 10 spelled ≡ n → has_64_bits n ≡ true → integer spelled ≡ token.Int n
kept spelled n e h = if-true (has_64_bits (signed_digits_value 10 spelled)) _ _ (ap has_64_bits e ∙ h) ∙ ap token.Int e

pub int-begins : (n : ℤ) → has_64_bits n ≡ true → Begins (signed_decimal n) (token.Int n)
int-begins (pos n) h =
    let small = ltb-true n (2 ^ 63) h in
    let w = decimal_is_IsNumeral_wide n (omega (arith, small)) in
    numeral-begins (decimal n) (token.Int (pos n)) w.0 (kept (decimal n) (pos n) (unsigned (decimal n) w.0 ∙ ap pos w.1) h)
int-begins (negsuc n) h =
    let small = ltb-true n (2 ^ 63) h in
    let w = decimal_is_IsNumeral_wide (suc n) (omega (arith, small)) in
    negative-begins (decimal (suc n)) (token.Int (negsuc n)) w.0 (kept (45 ∷ decimal (suc n)) (negsuc n) (ap (λ k. neg_ℤ (pos k)) w.1) h)

-- ---- pids and references

abbrev found : ℕ → ℕ → List ℕ → Option (ℕ × List ℕ)
found most n rest = if nat_le n most then Some (n, rest) else None

bounded-digits : (most n : ℕ) (ds rest : List ℕ) → IsNumeral 10 ds → digits_value 10 ds ≡ n → nat_le n most ≡ true → bounded most ds rest ≡ Some (n, rest)
bounded-digits most n [] rest h e le = absurd (omega (arith, h.0))
bounded-digits most n (d ∷ ds) rest h e le = subst (λ k. found most k rest ≡ Some (n, rest)) (sym e) (if-true (nat_le n most) _ _ le)

number-read : (most n : ℕ) (rest : List ℕ) → n < 10 ^ 64 → nat_le n most ≡ true → begins (is_digit 10) rest ≡ false → number_up_to most (decimal n ++ rest) ≡ Some (n, rest)
number-read most n rest small le stop =
    let w = decimal_is_IsNumeral_wide n small in
    let pass = digits-pass 10 (decimal n) w.0.1 in
    ap (λ ds. bounded most ds (behind (is_digit 10) (decimal n ++ rest))) (run-front (is_digit 10) (decimal n) rest pass stop)
    ∙ ap (bounded most (decimal n)) (behind-front (is_digit 10) (decimal n) rest pass stop)
    ∙ bounded-digits most n (decimal n) rest w.0 w.1 le

below-most : (n : ℕ) → nat_lt n (2 ^ 32) ≡ true → nat_le n (2 ^ 32 - 1) ≡ true
below-most n h = let lt = ltb-true n (2 ^ 32) h in le-leb n (2 ^ 32 - 1) (omega (arith, lt))

node-read : (n : ℕ) (rest : List ℕ) → nat_lt n (2 ^ 32) ≡ true → node (decimal n ++ 46 ∷ rest) ≡ Some (n, rest)
node-read n rest h =
    let lt = ltb-true n (2 ^ 32) h in
    ap (option_and_then (with_word (codes "."))) (number-read (2 ^ 32 - 1) n (46 ∷ rest) (omega (arith, lt)) (below-most n h) refl)

last-read : (n : ℕ) (rest : List ℕ) → nat_le n (2 ^ 62) ≡ true → last_number (decimal n ++ 62 ∷ rest) ≡ Some (n, rest)
last-read n rest h =
    let le = leb-true n (2 ^ 62) h in
    ap (option_and_then (with_word (codes ">"))) (number-read (2 ^ 62) n (62 ∷ rest) (omega (arith, le)) h refl)

both-read : (make : ℕ → ℕ → Token) (n k : ℕ) (rest : List ℕ) → nat_lt n (2 ^ 32) ≡ true → nat_le k (2 ^ 62) ≡ true
    → option_and_then (with_number make) (node (decimal n ++ 46 ∷ (decimal k ++ 62 ∷ rest))) ≡ Some (make n k, rest)
both-read make n k rest h l =
    ap (option_and_then (with_number make)) (node-read n (decimal k ++ 62 ∷ rest) h)
    ∙ ap (option_and_then (λ (r : ℕ × List ℕ). Some (make n r.0, r.1))) (last-read k rest l)

regrouped : (a b rest : List ℕ) (x y : ℕ) → (((a ++ x ∷ []) ++ b) ++ y ∷ []) ++ rest ≡ a ++ x ∷ (b ++ y ∷ rest)
regrouped a b rest x y = append_assoc ((a ++ x ∷ []) ++ b) (y ∷ []) rest ∙ append_assoc (a ++ x ∷ []) b (y ∷ rest) ∙ append_assoc a (x ∷ []) (b ++ y ∷ rest)

pub pid-begins : (n k : ℕ) → nat_lt n (2 ^ 32) ≡ true → nat_le k (2 ^ 62) ≡ true → Begins (codes "#Pid" ++ print_numbers n k) (token.Pid n k)
pid-begins n k h l = record {
  solid = λ rest. refl;
  goes_on = λ rest. refl;
  token = λ rest stop. ap pid (regrouped (decimal n) (decimal k) rest 46 62) ∙ both-read token.Pid n k rest h l;
}

pub reference-begins : (n k : ℕ) → nat_lt n (2 ^ 32) ≡ true → nat_le k (2 ^ 62) ≡ true → Begins (codes "#Ref" ++ print_numbers n k) (token.Ref n k)
reference-begins n k h l = record {
  solid = λ rest. refl;
  goes_on = λ rest. refl;
  token = λ rest stop. ap reference (regrouped (decimal n) (decimal k) rest 46 62) ∙ both-read token.Ref n k rest h l;
}
