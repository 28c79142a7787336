-- What a run of digits is.
use Rattle.std.proofs.Common.{◌≡◌, ℕ, zero, suc, ◌<◌, ◌≤◌, ◌^◌, ◌==◌, Bool, true, false, nat_lt, ℤ, pos, negsuc, FitsSigned, w64, List, [], ◌∷◌, ◌++◌, length, encode_utf8_all, if◌then◌else◌, Result, Ok, Err, SomeIff, arith, rules, refl, sym, ap, subst, ◌∙◌}
use Rattle.std.specs.Char.{digit_value}
use Rattle.std.specs.Str.{IsAscii}
use Rattle.std.specs.Str.Parse.{AllDigits, without_leading_plus, without_leading_sign, IsNumeral, digits_value, signed_digits_value, ParsesUnsigned}
use Rattle.std.specs.Result.{result_ok, OkIff}
use Rattle.std.proofs.lemmas.Str.{encodes-IsAscii}
use Rattle.asm_terms.specs.Runs.{run, begins}
use Rattle.ej_term.specs.Term.{has_64_bits}
use Rattle.asm_terms.specs.Numbers.{is_digit, begins_number, integer}
use Rattle.asm_terms.specs.Reading.{IsInteger, IsMinus}
use Rattle.asm_terms.specs.declared.token.Token.TheVariants as token

run_step : (base c : ℕ) (cs : List ℕ) (passes : Bool) → nat_lt (digit_value c) base ≡ passes → AllDigits base (run (is_digit base) cs)
    → AllDigits base (if passes then c ∷ run (is_digit base) cs else [])
run_step base c cs true e rest = (search (rules, e), rest)
run_step base c cs false e rest = tt

pub run-digits : (base : ℕ) (cs : List ℕ) → AllDigits base (run (is_digit base) cs)
run-digits base [] = tt
run-digits base (c ∷ cs) = run_step base c cs (nat_lt (digit_value c) base) refl (run-digits base cs)

run_begins : (p : ℕ → Bool) (cs : List ℕ) → begins p cs ≡ true → 0 < length (run p cs)
run_begins p [] e = grind arith
run_begins p (c ∷ cs) e = rw e (omega arith)

digit_ascii : (c : ℕ) → digit_value c < 36 → c < 128
digit_ascii c h = grind arith

pub digits-ascii : (base : ℕ) (ds : List ℕ) → base ≤ 36 → AllDigits base ds → IsAscii ds
digits-ascii base [] most h i = omega arith
digits-ascii base (d ∷ ds) most h zero = digit_ascii d (omega (arith, h.0))
digits-ascii base (d ∷ ds) most h (suc i) = digits-ascii base ds most h.1 i

no_plus : (c : ℕ) → digit_value c < 36 → (c == 43) ≡ false
no_plus c h = grind arith

no_minus : (c : ℕ) → digit_value c < 36 → (c == 45) ≡ false
no_minus c h = grind arith

pub plain_digits : (base : ℕ) (ds : List ℕ) → base ≤ 36 → AllDigits base ds → without_leading_plus ds ≡ ds
plain_digits base [] most h = refl
plain_digits base (d ∷ ds) most h = rw (no_plus d (omega (arith, h.0))) refl

plain_signed : (ds : List ℕ) → AllDigits 10 ds → without_leading_sign ds ≡ ds
plain_signed [] h = refl
plain_signed (d ∷ ds) h = rw (no_minus d (omega (arith, h.0))) (plain_digits 10 (d ∷ ds) (omega arith) h)

behind_minus : (ds : List ℕ) (m : ℕ) → m ≡ 45 → IsAscii ds → IsNumeral 10 ds → IsInteger (m ∷ ds)
behind_minus ds m e ascii numeral = subst (λ x. IsInteger (x ∷ ds)) (sym e) (minus_ascii, numeral)
  where
    minus_ascii : IsAscii (45 ∷ ds)
    minus_ascii zero = omega arith
    minus_ascii (suc i) = ascii i

integer_parts : (minus ds : List ℕ) → IsMinus minus → AllDigits 10 ds → 0 < length ds → IsInteger (minus ++ ds)
integer_parts [] ds m h long = (digits-ascii 10 ds (omega arith) h, subst (λ x. IsNumeral 10 x) (sym (plain_signed ds h)) (long, h))
integer_parts (c ∷ cs) ds m h long = subst (λ x. IsInteger (c ∷ (x ++ ds))) (sym m.1) (behind_minus ds c m.0 (digits-ascii 10 ds (omega arith) h) (long, h))

pub is_integer : (minus cs spelled : List ℕ) → IsMinus minus → begins_number cs ≡ true → spelled ≡ minus ++ run (is_digit 10) cs → IsInteger spelled
is_integer minus cs spelled m first e = subst IsInteger (sym e) (integer_parts minus (run (is_digit 10) cs) m (run-digits 10 cs) (run_begins (is_digit 10) cs first))

fits_64 : (z : ℤ) → FitsSigned w64 z → has_64_bits z ≡ true
fits_64 (pos n) h = grind arith
fits_64 (negsuc n) h = grind arith

fits_not : (z : ℤ) → ¬ (FitsSigned w64 z) → has_64_bits z ≡ false
fits_not (pos n) h = grind arith
fits_not (negsuc n) h = grind arith

pub integer_read : (spelled bs : List ℕ) (value : ℤ) → IsInteger spelled → bs ≡ encode_utf8_all spelled → FitsSigned w64 (signed_digits_value 10 bs)
    → value ≡ signed_digits_value 10 bs → token.Int value ≡ integer spelled
integer_read spelled bs value is e fits v =
    let same : bs ≡ spelled = e ∙ encodes-IsAscii spelled is.0 in
    let short : has_64_bits (signed_digits_value 10 spelled) ≡ true = fits_64 _ (subst (λ x. FitsSigned w64 (signed_digits_value 10 x)) same fits) in
    rw short (ap token.Int (v ∙ ap (signed_digits_value 10) same))

pub integer_kept : (spelled bs : List ℕ) → IsInteger spelled → bs ≡ encode_utf8_all spelled
    → ¬ (IsNumeral 10 (without_leading_sign bs) × FitsSigned w64 (signed_digits_value 10 bs)) → token.Opaque spelled ≡ integer spelled
integer_kept spelled bs is e h =
    let same : bs ≡ spelled = e ∙ encodes-IsAscii spelled is.0 in
    let long : has_64_bits (signed_digits_value 10 spelled) ≡ false =
    fits_not _ (λ f. h (subst (λ x. IsNumeral 10 (without_leading_sign x) × FitsSigned w64 (signed_digits_value 10 x)) (sym same) (is.1, f))) in
    rw long refl

result_value : {E : Type 0} (base : ℕ) (digits : List ℕ) (q : Result ℕ E) → AllDigits base digits
    → OkIff q (IsNumeral base digits × (digits_value base digits < 2 ^ 64)) (digits_value base digits)
    → SomeIff (result_ok q) ((0 < length digits) × (digits_value base digits < 2 ^ 64)) (digits_value base digits)
result_value base digits (Ok n) all g = ((g.0.0.0, g.0.1), g.1)
result_value base digits (Err x) all g = λ f. g ((f.0, all), f.1)

pub value_read : {E : Type 0} (base : ℕ) (digits bs : List ℕ) (r : Result ℕ E) → base ≤ 36 → AllDigits base digits → bs ≡ encode_utf8_all digits → ParsesUnsigned 64 base bs r
    → SomeIff (result_ok r) ((0 < length digits) × (digits_value base digits < 2 ^ 64)) (digits_value base digits)
value_read base digits bs r most all e h =
    let same : bs ≡ digits = e ∙ encodes-IsAscii digits (digits-ascii base digits most all) in
    let plain : without_leading_plus bs ≡ digits = ap without_leading_plus same ∙ plain_digits base digits most all in
    result_value base digits r all (subst (λ x. OkIff r (IsNumeral base x × (digits_value base x < 2 ^ 64)) (digits_value base x)) plain h)
