-- The text that is found is the one that the bytes spell, and there is one where any is spelled.
use Rattle.std.proofs.Common.{◌≡◌, ℕ, ◌+◌, ◌-◌, ◌/◌, ◌%◌, ◌<◌, ◌≤◌, ◌^◌, nat_lt, Bool, true, false, ◌&&◌, if◌then◌else◌, List, [], ◌∷◌, ◌++◌, refl, ap, ◌∙◌, arith}
use Rattle.std.proofs.lemmas.Bool.Decides.{nat_tests}
use Rattle.jvm_code.specs.Units.{AreUnits, unit_bytes, units_bytes}
use Rattle.stack_maps.specs.Texts.{is_behind, first_bits, more_bits, units_from, units_of}

-- ---- the units of spelled units

goes_on : (unit b : ℕ) (bs : List ℕ) → 128 ≤ b → b < 192 → units_from unit (b ∷ bs) ≡ units_from (more_bits unit b) bs
goes_on unit b bs l h = let e : is_behind b ≡ true = grind (arith, nat_tests) in rw e refl

low_begins : (unit b : ℕ) (bs : List ℕ) → b < 128 → units_from unit (b ∷ bs) ≡ unit ∷ units_of (b ∷ bs)
low_begins unit b bs l = let e : is_behind b ≡ false = grind (arith, nat_tests) in rw e refl

high_begins : (unit b : ℕ) (bs : List ℕ) → 192 ≤ b → units_from unit (b ∷ bs) ≡ unit ∷ units_of (b ∷ bs)
high_begins unit b bs l = let e : is_behind b ≡ false = grind (arith, nat_tests) in rw e refl

bits_one : (b : ℕ) → b < 128 → first_bits b ≡ b
bits_one b l = let f : nat_lt b 128 ≡ true = grind (arith, nat_tests) in rw f refl

bits_two : (b : ℕ) → 192 ≤ b → b < 224 → first_bits b ≡ b - 192
bits_two b l h =
    let f : nat_lt b 128 ≡ false = grind (arith, nat_tests) in
    let g : nat_lt b 224 ≡ true = grind (arith, nat_tests) in
    let n : b % 32 ≡ b - 192 = omega (arith, l, h) in rw (f, g) n

bits_three : (b : ℕ) → 224 ≤ b → b < 240 → first_bits b ≡ b - 224
bits_three b l h =
    let f : nat_lt b 128 ≡ false = grind (arith, nat_tests) in
    let g : nat_lt b 224 ≡ false = grind (arith, nat_tests) in
    let n : b % 16 ≡ b - 224 = omega (arith, l, h) in rw (f, g) n

abbrev bytes : ℕ → Bool → Bool → List ℕ
bytes u c d = if c then u ∷ [] else if d then (192 + u / 64) ∷ (128 + u % 64) ∷ [] else (224 + u / 4096) ∷ (128 + u / 64 % 64) ∷ (128 + u % 64) ∷ []

is_low : (u : ℕ) → (nat_lt 0 u && nat_lt u 128) ≡ true → u < 128
is_low u e = grind (arith, nat_tests)

is_middle : (u : ℕ) → nat_lt u 2048 ≡ true → u < 2048
is_middle u e = grind (arith, nat_tests)

-- behind another's, a unit's bytes begin it
apart : (v u : ℕ) (rest : List ℕ) → units_from v (unit_bytes u ++ rest) ≡ v ∷ units_of (unit_bytes u ++ rest)
apart v u rest = go (nat_lt 0 u && nat_lt u 128) (nat_lt u 2048) refl
  where
    go : (c d : Bool) → (nat_lt 0 u && nat_lt u 128) ≡ c → units_from v (bytes u c d ++ rest) ≡ v ∷ units_of (bytes u c d ++ rest)
    go true d e = low_begins v u rest (is_low u e)
    go false true e = high_begins v (192 + u / 64) ((128 + u % 64) ∷ rest) (omega arith)
    go false false e = high_begins v (224 + u / 4096) ((128 + u / 64 % 64) ∷ (128 + u % 64) ∷ rest) (omega arith)

two_bits : (u : ℕ) → u < 2048 → more_bits (192 + u / 64 - 192) (128 + u % 64) ≡ u
two_bits u h = omega (arith, h)

three_bits : (u : ℕ) → u < 2 ^ 16 → more_bits (more_bits (224 + u / 4096 - 224) (128 + u / 64 % 64)) (128 + u % 64) ≡ u
three_bits u h = omega (arith, h)

-- and are read to it
begun : (u : ℕ) (rest : List ℕ) → u < 2 ^ 16 → units_of (unit_bytes u ++ rest) ≡ units_from u rest
begun u rest l = go (nat_lt 0 u && nat_lt u 128) (nat_lt u 2048) refl refl
  where
    go : (c d : Bool) → (nat_lt 0 u && nat_lt u 128) ≡ c → nat_lt u 2048 ≡ d → units_of (bytes u c d ++ rest) ≡ units_from u rest
    go true d e f = ap (λ n. units_from n rest) (bits_one u (is_low u e))
    go false true e f =
        let h = is_middle u f in
        ap (λ n. units_from n ((128 + u % 64) ∷ rest)) (bits_two (192 + u / 64) (omega arith) (omega (arith, h)))
        ∙ goes_on (192 + u / 64 - 192) (128 + u % 64) rest (omega arith) (omega arith)
        ∙ ap (λ n. units_from n rest) (two_bits u h)
    go false false e f =
        ap (λ n. units_from n ((128 + u / 64 % 64) ∷ (128 + u % 64) ∷ rest)) (bits_three (224 + u / 4096) (omega arith) (omega (arith, l)))
        ∙ goes_on (224 + u / 4096 - 224) (128 + u / 64 % 64) ((128 + u % 64) ∷ rest) (omega arith) (omega arith)
        ∙ goes_on (more_bits (224 + u / 4096 - 224) (128 + u / 64 % 64)) (128 + u % 64) rest (omega arith) (omega arith)
        ∙ ap (λ n. units_from n rest) (three_bits u l)

units_behind : (v : ℕ) (us : List ℕ) → AreUnits us → units_from v (units_bytes us) ≡ v ∷ us
units_behind v [] h = refl
units_behind v (u ∷ us) h = apart v u (units_bytes us) ∙ ap (λ us. v ∷ us) (begun u (units_bytes us) h.0 ∙ units_behind u us h.1)

-- units are told by their bytes
pub units_back : (us : List ℕ) → AreUnits us → units_of (units_bytes us) ≡ us
units_back [] h = refl
units_back (u ∷ us) h = begun u (units_bytes us) h.0 ∙ units_behind u us h.1
