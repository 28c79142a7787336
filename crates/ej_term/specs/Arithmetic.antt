-- Arithmetic on integers of 64 bits (Erlang Reference Manual, "Arithmetic Expressions").
use Rattle.std.specs.Prelude.{zero, suc, ℤ, pos, negsuc, neg_ℤ, nat_abs, ◌+ℤ◌, ◌-ℤ◌, ◌*ℤ◌, ◌^◌, min, int_div, int_rem}
use Rattle.std.specs.Int.{w64, int_bit_and, int_bit_or, int_bit_xor, int_shr}
use Rattle.ej_term.specs.Term.{Term, Int}
use Rattle.ej_term.specs.Outcome.{Outcome, badarith, integer}

-- an operation on two integers; error badarith of anything else
abbrev pub on_integers : (ℤ → ℤ → Outcome) → Term → Term → Outcome
on_integers f (Int m) (Int n) = f m n
on_integers f _ _ = badarith

-- an operation on one integer; this outcome of anything else
abbrev pub on_integer : Outcome → (ℤ → ℤ) → Term → Outcome
on_integer otherwise f (Int n) = integer (f n)
on_integer otherwise f _ = otherwise

abbrev pub plus : ℤ → ℤ → Outcome
plus m n = integer (m +ℤ n)

abbrev pub minus : ℤ → ℤ → Outcome
minus m n = integer (m -ℤ n)

abbrev pub times : ℤ → ℤ → Outcome
times m n = integer (m *ℤ n)

-- not by 0
abbrev pub divided : (ℤ → ℤ → ℤ) → ℤ → ℤ → Outcome
divided f m (pos zero) = badarith
divided f m n = integer (f m n)

-- truncated to zero
abbrev pub quotient : ℤ → ℤ → Outcome
quotient = divided int_div

-- with the sign of the dividend
abbrev pub remainder : ℤ → ℤ → Outcome
remainder = divided int_rem

-- bit by bit, in two's complement
abbrev pub band : ℤ → ℤ → Outcome
band m n = integer (int_bit_and w64 m n)

abbrev pub bor : ℤ → ℤ → Outcome
bor m n = integer (int_bit_or w64 m n)

abbrev pub bxor : ℤ → ℤ → Outcome
bxor m n = integer (int_bit_xor w64 m n)

-- to the left where the count is positive, and else to the right, rounded down; of a number of 64 bits a shift by
-- more than 64 places leaves what one by 64 does: 0, -1, or what does not fit
abbrev pub shifted : ℤ → ℤ → Outcome
shifted m (pos places) = integer (m *ℤ pos (2 ^ min places 64))
shifted m (negsuc places) = integer (int_shr m (min (suc places) 64))

abbrev pub bsl : ℤ → ℤ → Outcome
bsl = shifted

abbrev pub bsr : ℤ → ℤ → Outcome
bsr m n = shifted m (neg_ℤ n)

-- the number whose bits are all others
abbrev pub bnot : ℤ → ℤ
bnot (pos n) = negsuc n
bnot (negsuc n) = pos n

abbrev pub same : ℤ → ℤ
same n = n

abbrev pub absolute : ℤ → ℤ
absolute n = pos (nat_abs n)
