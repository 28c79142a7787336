-- The high value of a `tableswitch` in four bytes, by its low four of eight.
use Rattle.std.proofs.Common.{◌≡◌, ℕ, ◌<◌, ◌^◌, ℤ, pos, negsuc, ◌≤ℤ◌, FitsSigned, List, [], ◌∷◌, refl, arith}
use Rattle.std.proofs.lemmas.Int.{ints}
use Rattle.std.specs.Int.{cast_unsigned, w32, w64}
use Rattle.byteorder.specs.Endian.{big_bytes}
use Rattle.jvm_code.specs.Spelling.{high_of}

abbrev listed : ℕ → ℕ → ℕ → ℕ → List ℕ
listed a b c d = a ∷ b ∷ c ∷ d ∷ []

same_four : (a b c d a' b' c' d' : ℕ) → a ≡ a' → b ≡ b' → c ≡ c' → d ≡ d' → listed a b c d ≡ listed a' b' c' d'
same_four a b c d a' b' c' d' p q r s = cc

-- a negative number of eight bytes ends in the four of its own
negative : (n : ℕ) → n < 2 ^ 32 → big_bytes 4 (cast_unsigned w64 (negsuc n)) ≡ big_bytes 4 (cast_unsigned w32 (negsuc n))
negative n l = same_four _ _ _ _ _ _ _ _ (omega (arith, l)) (omega (arith, l)) (omega (arith, l)) (omega (arith, l))

same_low : (z : ℤ) → negsuc 4294967295 ≤ℤ z → big_bytes 4 (cast_unsigned w64 z) ≡ big_bytes 4 (cast_unsigned w32 z)
same_low (pos n) l = refl
same_low (negsuc n) l = negative n (omega (arith, ints, l))

pub high : (low : ℤ) (offsets : List ℤ) → FitsSigned w32 low → big_bytes 4 (cast_unsigned w64 (high_of low offsets)) ≡ big_bytes 4 (cast_unsigned w32 (high_of low offsets))
high low offsets f = same_low (high_of low offsets) (omega (arith, ints, f))
