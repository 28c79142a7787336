-- The bytes of a text in UTF-8 are bytes, and no fewer than its characters.
use Rattle.std.proofs.Common.{◌≡◌, ℕ, ◌+◌, ◌/◌, ◌%◌, ◌<◌, nat_lt, Bool, true, false, cond, List, [], ◌∷◌, ◌++◌, inl, inr, refl, arith}
use Rattle.std.proofs.lemmas.Bool.{and_parts}
use Rattle.std.proofs.lemmas.Bool.Decides.{nat_tests}
use lib.Utf8.{scalar, scalars, scalar_cases, encode, encodes}
use Rattle.jvm_code.proofs.MangleLaw.{Bytes}

scalar_below : (c : ℕ) → scalar c ≡ true → c < 1114112
scalar_below c e = elim (scalar_cases c e) [ inl low ↦ omega (arith, low) | inr range ↦ range.1 ]

encode_bytes : (c : ℕ) → c < 1114112 → Bytes (encode c)
unfolding encode
encode_bytes c l = go (nat_lt c 128) (nat_lt c 2048) (nat_lt c 65536) refl refl refl
  where
    go : (p q r : Bool) → nat_lt c 128 ≡ p → nat_lt c 2048 ≡ q → nat_lt c 65536 ≡ r
        → Bytes (cond p (c ∷ []) (cond q ((192 + c / 64) ∷ (128 + c % 64) ∷ []) (cond r ((224 + c / 4096) ∷ (128 + c / 64 % 64) ∷ (128 + c % 64) ∷ [])
        ((240 + c / 262144) ∷ (128 + c / 4096 % 64) ∷ (128 + c / 64 % 64) ∷ (128 + c % 64) ∷ []))))
    go true q r e f g = let h : c < 128 = grind (arith, nat_tests) in (omega (arith, h), tt)
    go false true r e f g = let h : c < 2048 = grind (arith, nat_tests) in (omega (arith, h), (omega arith, tt))
    go false false true e f g = let h : c < 65536 = grind (arith, nat_tests) in (omega (arith, h), (omega arith, (omega arith, tt)))
    go false false false e f g = (omega (arith, l), (omega arith, (omega arith, (omega arith, tt))))

both : (xs ys : List ℕ) → Bytes xs → Bytes ys → Bytes (xs ++ ys)
both [] ys h k = k
both (x ∷ xs) ys h k = (h.0, both xs ys h.1 k)

pub text_bytes : (cs : List ℕ) → scalars cs ≡ true → Bytes (encodes cs)
text_bytes [] e = tt
text_bytes (c ∷ cs) e = let p = and_parts _ _ e in both (encode c) (encodes cs) (encode_bytes c (scalar_below c p.0)) (text_bytes cs p.1)
