-- Integers that fit 64 bits with their sign.
use Rattle.std.proofs.Common.{◌≡◌, ℕ, zero, suc, ◌<◌, ◌≤◌, ◌*◌, ◌-◌, ◌%◌, ◌^◌, min, subst, ℤ, pos, negsuc, neg_ℤ, ◌*ℤ◌, true, sym, ap, ap₂, ◌∙◌, arith, FitsSigned, w64}
use Rattle.std.specs.Int.{w128, cast_signed, cast_unsigned}
use Rattle.std.specs.Int.Signed.{mag}
use Rattle.std.proofs.lemmas.Int.{to_z-of_z, to_z_pos}
use Rattle.std.proofs.lemmas.Bool.Decides.{nat_tests}
use Rattle.std.proofs.Math.Pow.{pow_mono}
use Rattle.std.proofs.Math.Nat.{mul-le-mul}
use Rattle.ej_term.specs.Term.{has_64_bits}

pub is-fitting : (z : ℤ) → FitsSigned w64 z → has_64_bits z ≡ true
is-fitting (pos n) h = grind (arith, nat_tests, h.sfits)
is-fitting (negsuc n) h = grind (arith, nat_tests, h.sfits)

negated : (r : ℕ) → r ≤ 2 ^ 127 → mag (neg_ℤ (pos r)) < 2 ^ 127
negated zero h = omega arith
negated (suc r) h = omega (arith, h)

scaled : (a b f g : ℕ) → a ≤ b → f ≤ g → a * f ≤ b * g
scaled a b f g h k = mul-le-mul h k

-- a number of 64 bits times a factor up to two to the power of 64
pub wide : (m : ℤ) (k : ℕ) → FitsSigned w64 m → k ≤ 64 → FitsSigned w128 (m *ℤ pos (2 ^ k))
wide (pos a) k h b =
    let p : 2 ^ k ≤ 2 ^ 64 = pow_mono b in
    let q : a ≤ 2 ^ 63 - 1 = omega (arith, h.sfits) in
    let s = scaled a (2 ^ 63 - 1) (2 ^ k) (2 ^ 64) q p in
    record { sfits = omega (arith, s) }
wide (negsuc a) k h b =
    let p : 2 ^ k ≤ 2 ^ 64 = pow_mono b in
    let q : suc a ≤ 2 ^ 63 = omega (arith, h.sfits) in
    let s = scaled (suc a) (2 ^ 63) (2 ^ k) (2 ^ 64) q p in
    record { sfits = negated (suc a * 2 ^ k) (omega (arith, s)) }

factor : (k : ℕ) → k ≤ 64 → cast_signed w128 (1 * 2 ^ k % 2 ^ 128) ≡ pos (2 ^ k)
factor k b =
    let p : 2 ^ k ≤ 2 ^ 64 = pow_mono b in
    let e : 1 * 2 ^ k % 2 ^ 128 ≡ 2 ^ k = grind (arith, p) in
    ap (cast_signed w128) e ∙ to_z_pos w128 (2 ^ k) (omega (arith, p))

wider : (m : ℤ) → FitsSigned w64 m → FitsSigned w128 m
wider m h = record { sfits = omega (arith, h.sfits) }

pub product-is : (m r : ℤ) (k n : ℕ) → r ≡ cast_signed w64 (cast_unsigned w64 m) → FitsSigned w64 m → k ≡ min n 64
    → cast_signed w128 (cast_unsigned w128 r) *ℤ cast_signed w128 (1 * 2 ^ k % 2 ^ 128) ≡ m *ℤ pos (2 ^ min n 64)
product-is m r k n e h f =
    let same : r ≡ m = e ∙ to_z-of_z w64 m h in
    ap₂ ◌*ℤ◌ (ap (λ z. cast_signed w128 (cast_unsigned w128 z)) same ∙ to_z-of_z w128 m (wider m h)) (factor k (omega (arith, f)) ∙ ap (λ j. pos (2 ^ j)) f)

pub product-fits : (m r : ℤ) (k n : ℕ) → r ≡ cast_signed w64 (cast_unsigned w64 m) → FitsSigned w64 m → k ≡ min n 64
    → FitsSigned w128 (cast_signed w128 (cast_unsigned w128 r) *ℤ cast_signed w128 (1 * 2 ^ k % 2 ^ 128))
product-fits m r k n e h f = subst (λ (z : ℤ). FitsSigned w128 z) (sym (product-is m r k n e h f)) (wide m (min n 64) h (omega arith))
