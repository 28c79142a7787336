-- Numbers that stay at 2^64-1.
use Rattle.std.proofs.Common.{◌≡◌, ℕ, zero, suc, ◌+◌, ◌-◌, ◌*◌, ◌^◌, ◌≤◌, Bool, true, false, refl, sym, ap, ◌∙◌, arith}
use Rattle.std.specs.Prelude.{nat_le}
use Rattle.std.proofs.lemmas.Bool.Decides.{nat_tests}
use native.Mathlib.Numerals.{unary_clauses}
use Rattle.beam_code.specs.Weights.{saturated}

abbrev last : ℕ
last = 2 ^ 64 - 1

small : (n : ℕ) → n ≤ last → saturated n ≡ n
small n h = omega arith

large : (n : ℕ) → last ≤ n → saturated n ≡ last
large n h = omega arith

-- a product with a factor of at least one
more : (m n : ℕ) → 1 ≤ n → m ≤ m * n
more m zero h = absurd (omega arith)
more m (suc n) h = simp unary_clauses (omega arith)

at-least-one : (n : ℕ) → 1 ≤ n → 1 ≤ saturated n
at-least-one n h = omega arith

swapped : (m n : ℕ) → m * n ≡ n * m
swapped m n = omega arith

large-times : (a b : ℕ) → last ≤ a → saturated (saturated a * saturated b) ≡ saturated (a * b)
large-times a zero h = ap saturated (omega arith)
large-times a (suc b) h =
    large (saturated a * saturated (suc b)) (omega (arith, large a h, more (saturated a) (saturated (suc b)) (at-least-one (suc b) (omega arith))))
    ∙ sym (large (a * suc b) (omega (arith, more a (suc b) (omega arith))))

-- a product
pub saturated-times : (a b : ℕ) → saturated (saturated a * saturated b) ≡ saturated (a * b)
saturated-times a b = by (nat_le a last) (nat_le b last) refl refl
  where
    by : (p q : Bool) → nat_le a last ≡ p → nat_le b last ≡ q → saturated (saturated a * saturated b) ≡ saturated (a * b)
    by false q e f = large-times a b (grind (arith, nat_tests))
    by true false e f =
        ap saturated (swapped (saturated a) (saturated b)) ∙ large-times b a (grind (arith, nat_tests)) ∙ ap saturated (swapped b a)
    by true true e f =
        ap (λ m. saturated (m * saturated b)) (small a (grind (arith, nat_tests))) ∙ ap (λ n. saturated (a * n)) (small b (grind (arith, nat_tests)))

-- a sum
pub saturated-plus : (a b : ℕ) → saturated (saturated a + saturated b) ≡ saturated (a + b)
saturated-plus a b = omega arith

-- a product of what stays there
pub times-is : (r x y a b : ℕ) → r ≡ saturated (x * y) → x ≡ saturated a → y ≡ saturated b → r ≡ saturated (a * b)
times-is r x y a b e p q = e ∙ ap (λ m. saturated (m * y)) p ∙ ap (λ n. saturated (saturated a * n)) q ∙ saturated-times a b

-- a sum of what stays there
pub plus-is : (r x y a b : ℕ) → r ≡ saturated (x + y) → x ≡ saturated a → y ≡ saturated b → r ≡ saturated (a + b)
plus-is r x y a b e p q = e ∙ ap (λ m. saturated (m + y)) p ∙ ap (λ n. saturated (saturated a + n)) q ∙ saturated-plus a b

-- what stays there is there
pub within-is : (r n : ℕ) → r ≡ saturated n → saturated r ≡ r
within-is r n e = omega arith
