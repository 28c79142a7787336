-- Numbers of three digits at most, and their decimal text.
use Rattle.std.proofs.Common.{◌≡◌, ℕ, ◌+◌, ◌-◌, ◌*◌, ◌/◌, ◌%◌, ◌<◌, ◌≤◌, nat_eq, nat_lt, Bool, true, false, cond, if◌then◌else◌, List, [], ◌∷◌, ◌++◌, None, Some, decimal, refl, sym, ap, ◌∙◌, subst, arith}
use Rattle.std.proofs.lemmas.Bool.Decides.{nat_tests}
use Rattle.std.proofs.lemmas.Fmt.{decimal_by_steps}
use Rattle.jvm_code.specs.Names.{is_digit, small_number}

-- each is a digit
abbrev pub AllDigits : List ℕ → Type 0
AllDigits [] = Unit {0}
AllDigits (b ∷ bs) = (is_digit b ≡ true) × AllDigits bs

abbrev shortest : ℕ → List ℕ
shortest n =
    if nat_lt n 10 then (48 + n) ∷ []
    else if nat_lt n 100 then (48 + n / 10) ∷ (48 + n % 10) ∷ []
    else (48 + n / 100) ∷ (48 + n / 10 % 10) ∷ (48 + n % 10) ∷ []

one_digit : (n : ℕ) → n < 10 → shortest n ≡ (48 + n) ∷ []
one_digit n l = let c : nat_lt n 10 ≡ true = grind (arith, nat_tests) in rw c refl

two_digits : (n : ℕ) → 10 ≤ n → n < 100 → shortest n ≡ (48 + n / 10) ∷ (48 + n % 10) ∷ []
two_digits n l h =
    let c : nat_lt n 10 ≡ false = grind (arith, nat_tests) in
    let d : nat_lt n 100 ≡ true = grind (arith, nat_tests) in rw (c, d) refl

three_digits : (n : ℕ) → 100 ≤ n → shortest n ≡ (48 + n / 100) ∷ (48 + n / 10 % 10) ∷ (48 + n % 10) ∷ []
three_digits n l =
    let c : nat_lt n 10 ≡ false = grind (arith, nat_tests) in
    let d : nat_lt n 100 ≡ false = grind (arith, nat_tests) in rw (c, d) refl

same_two : (a b a' b' : ℕ) → a ≡ a' → b ≡ b' → Path (List ℕ) (a ∷ b ∷ []) (a' ∷ b' ∷ [])
same_two a b a' b' p q = cc

same_three : (a b c a' b' c' : ℕ) → a ≡ a' → b ≡ b' → c ≡ c' → Path (List ℕ) (a ∷ b ∷ c ∷ []) (a' ∷ b' ∷ c' ∷ [])
same_three a b c a' b' c' p q r = cc

abbrev Short : ℕ → List ℕ → Type 0
Short n ds = n < 1000 → ds ≡ shortest n

push_digit : (n : ℕ) (ds : List ℕ) → 10 ≤ n → Short (n / 10) ds → Short n (ds ++ ((48 + n % 10) ∷ []))
push_digit n ds l s h = go (nat_lt n 100) refl
  where
    go : (c : Bool) → nat_lt n 100 ≡ c → ds ++ ((48 + n % 10) ∷ []) ≡ shortest n
    go true e =
        let low : n < 100 = grind (arith, nat_tests) in
        ap (λ d. d ++ ((48 + n % 10) ∷ [])) (s (omega (arith, h)) ∙ one_digit (n / 10) (omega (arith, low))) ∙ sym (two_digits n l low)
    go false e =
        let high : 100 ≤ n = grind (arith, nat_tests) in
        ap (λ d. d ++ ((48 + n % 10) ∷ [])) (s (omega (arith, h)) ∙ two_digits (n / 10) (omega (arith, high)) (omega (arith, h)))
        ∙ same_three (48 + n / 10 / 10) (48 + n / 10 % 10) (48 + n % 10) (48 + n / 100) (48 + n / 10 % 10) (48 + n % 10) (omega arith) refl refl ∙ sym (three_digits n high)

decimal_short : (n : ℕ) → n < 1000 → decimal n ≡ shortest n
decimal_short n l = decimal_by_steps Short (λ n h k. sym (one_digit n h)) push_digit n (omega (arith, l)) l

from_48 : (b : ℕ) → is_digit b ≡ true → 48 ≤ b
from_48 b e = grind (arith, nat_tests)

to_57 : (b : ℕ) → is_digit b ≡ true → b ≤ 57
to_57 b e = grind (arith, nat_tests)

not_48 : (b : ℕ) → is_digit b ≡ true → nat_eq b 48 ≡ false → 49 ≤ b
not_48 b d e = grind (arith, nat_tests)

pub record Small (ds : List ℕ) (n : ℕ) : Type 0 where
  pub short : n < 1000
  pub is : ds ≡ shortest n

short_told : (ds : List ℕ) (n : ℕ) → AllDigits ds → small_number ds ≡ Some n → Small ds n
short_told [] n d e = absurd cc
short_told (a ∷ []) n d e =
    let is : a - 48 ≡ n = cc in
    let low = from_48 a d.0 in
    let high = to_57 a d.0 in
    record { short = omega (arith, is, high); is = ap (λ x. x ∷ []) (omega (arith, is, low)) ∙ sym (one_digit n (omega (arith, is, high))) }
short_told (a ∷ b ∷ []) n d e = go (nat_eq a 48) refl e
  where
    go : (c : Bool) → nat_eq a 48 ≡ c → cond c None (Some (10 * (a - 48) + (b - 48))) ≡ Some n → Small (a ∷ b ∷ []) n
    go true f e = absurd cc
    go false f e =
        let is : 10 * (a - 48) + (b - 48) ≡ n = cc in
        let low = not_48 a d.0 f in
        let high = to_57 a d.0 in
        let low' = from_48 b d.1.0 in
        let high' = to_57 b d.1.0 in
        record {
          short = omega (arith, is, high, high');
          is = same_two a b (48 + n / 10) (48 + n % 10) (omega (arith, is, low, low', high')) (omega (arith, is, low, low', high'))
              ∙ sym (two_digits n (omega (arith, is, low)) (omega (arith, is, high, high')));
        }
short_told (a ∷ b ∷ c ∷ []) n d e = go (nat_eq a 48) refl e
  where
    go : (t : Bool) → nat_eq a 48 ≡ t → cond t None (Some (100 * (a - 48) + 10 * (b - 48) + (c - 48))) ≡ Some n → Small (a ∷ b ∷ c ∷ []) n
    go true f e = absurd cc
    go false f e =
        let is : 100 * (a - 48) + 10 * (b - 48) + (c - 48) ≡ n = cc in
        let low = not_48 a d.0 f in
        let high = to_57 a d.0 in
        let low' = from_48 b d.1.0 in
        let high' = to_57 b d.1.0 in
        let low'' = from_48 c d.1.1.0 in
        let high'' = to_57 c d.1.1.0 in
        record {
          short = omega (arith, is, high, high', high'');
          is = same_three a b c (48 + n / 100) (48 + n / 10 % 10) (48 + n % 10) (omega (arith, is, low, low', high', low'', high''))
              (omega (arith, is, low, low', high', low'', high'')) (omega (arith, is, low, low', high', low'', high''))
              ∙ sym (three_digits n (omega (arith, is, low)));
        }
short_told (a ∷ b ∷ c ∷ x ∷ ds) n d e = absurd cc

-- digits that are read as a number are its decimal text
pub small_told : (ds : List ℕ) (n : ℕ) → AllDigits ds → small_number ds ≡ Some n → ds ≡ decimal n
small_told ds n d e = let s = short_told ds n d e in s.is ∙ sym (decimal_short n s.short)

pub small_below : (ds : List ℕ) (n : ℕ) → AllDigits ds → small_number ds ≡ Some n → n < 1000
small_below ds n d e = (short_told ds n d e).short

-- ---- the decimal text of a number is read as it

digit_of : (d b : ℕ) → d < 10 → b ≡ 48 + d → is_digit b ≡ true
digit_of d b l e = grind (arith, nat_tests)

no_zero : (b : ℕ) → 49 ≤ b → nat_eq b 48 ≡ false
no_zero b l = grind (arith, nat_tests)

pub record Spelled (n : ℕ) (ds : List ℕ) : Type 0 where
  pub digits : AllDigits ds
  pub read : small_number ds ≡ Some n

read_two : (a b n : ℕ) → 49 ≤ a → 10 * (a - 48) + (b - 48) ≡ n → small_number (a ∷ b ∷ []) ≡ Some n
read_two a b n l e = ap (λ t. cond t None (Some (10 * (a - 48) + (b - 48)))) (no_zero a l) ∙ ap (λ k. Some k) e

read_three : (a b c n : ℕ) → 49 ≤ a → 100 * (a - 48) + 10 * (b - 48) + (c - 48) ≡ n → small_number (a ∷ b ∷ c ∷ []) ≡ Some n
read_three a b c n l e = ap (λ t. cond t None (Some (100 * (a - 48) + 10 * (b - 48) + (c - 48)))) (no_zero a l) ∙ ap (λ k. Some k) e

shortest_read : (n : ℕ) → n < 1000 → Spelled n (shortest n)
shortest_read n l = go (nat_lt n 10) (nat_lt n 100) refl refl
  where
    go : (c d : Bool) → nat_lt n 10 ≡ c → nat_lt n 100 ≡ d
        → Spelled n (cond c ((48 + n) ∷ []) (cond d ((48 + n / 10) ∷ (48 + n % 10) ∷ []) ((48 + n / 100) ∷ (48 + n / 10 % 10) ∷ (48 + n % 10) ∷ [])))
    go true d e f =
        let low : n < 10 = grind (arith, nat_tests) in
        record { digits = (digit_of n (48 + n) low refl, tt); read = ap (λ k. Some k) (omega arith) }
    go false true e f =
        let low : 10 ≤ n = grind (arith, nat_tests) in
        let high : n < 100 = grind (arith, nat_tests) in
        record {
          digits = (digit_of (n / 10) (48 + n / 10) (omega (arith, high)) refl, (digit_of (n % 10) (48 + n % 10) (omega arith) refl, tt));
          read = read_two (48 + n / 10) (48 + n % 10) n (omega (arith, low)) (omega arith);
        }
    go false false e f =
        let low : 100 ≤ n = grind (arith, nat_tests) in
        record {
          digits = (digit_of (n / 100) (48 + n / 100) (omega (arith, l)) refl, (digit_of (n / 10 % 10) (48 + n / 10 % 10) (omega arith) refl, (digit_of (n % 10) (48 + n % 10) (omega arith) refl, tt)));
          read = read_three (48 + n / 100) (48 + n / 10 % 10) (48 + n % 10) n (omega (arith, low)) (omega arith);
        }

pub small_spelled : (n : ℕ) → n < 1000 → Spelled n (decimal n)
small_spelled n l = subst (Spelled n) (sym (decimal_short n l)) (shortest_read n l)
