-- Bytes pass as modified UTF-8 exactly where units are spelled so.
use Rattle.std.proofs.Common.{◌≡◌, ℕ, zero, suc, ◌+◌, ◌-◌, ◌*◌, ◌/◌, ◌%◌, ◌<◌, ◌≤◌, ◌^◌, nat_eq, nat_lt, Bool, true, false, ◌&&◌, if◌then◌else◌, cond, List, [], ◌∷◌, ◌++◌, length, Option, None, Some, refl, sym, ap, ◌∙◌, arith}
use Rattle.std.proofs.lemmas.Bool.Decides.{nat_tests}
use Rattle.jvm_code.specs.ModifiedUtf8.{is_in, behind, is_some_and, are_units, is_modified_utf8}
use Rattle.jvm_code.specs.Units.{unit_bytes, units_bytes, AreUnits, UnitsOf}

in_range : (low high b : ℕ) → low ≤ b → b ≤ high → is_in (low, high) b ≡ true
in_range low high b l h = grind (arith, nat_tests)

past_range : (low high b : ℕ) → high < b → is_in (low, high) b ≡ false
past_range low high b h = grind (arith, nat_tests)

not_it : (n b : ℕ) → n < b → nat_eq b n ≡ false
not_it n b h = grind (arith, nat_tests)

-- what is due behind a first byte of each kind
one_due : (b : ℕ) → 1 ≤ b → b ≤ 127 → behind b ≡ Some []
one_due b l h = rw (in_range 1 127 b l h) refl

two_due : (b : ℕ) → 194 ≤ b → b ≤ 223 → behind b ≡ Some ((128, 191) ∷ [])
two_due b l h = rw (past_range 1 127 b (omega (arith, l)), not_it 192 b (omega (arith, l)), in_range 194 223 b l h) refl

three_due : (b : ℕ) → 225 ≤ b → b ≤ 239 → behind b ≡ Some ((128, 191) ∷ (128, 191) ∷ [])
three_due b l h = rw (past_range 1 127 b (omega (arith, l)), not_it 192 b (omega (arith, l)), past_range 194 223 b (omega (arith, l)), not_it 224 b (omega (arith, l)), in_range 225 239 b l h) refl

-- a byte in its range is passed
in_due : (low high b : ℕ) (due : List (ℕ × ℕ)) (bs : List ℕ) → low ≤ b → b ≤ high → are_units ((low, high) ∷ due) (b ∷ bs) ≡ are_units due bs
in_due low high b due bs l h = rw (in_range low high b l h) refl

first : (b : ℕ) (due : List (ℕ × ℕ)) (bs : List ℕ) → behind b ≡ Some due → are_units [] (b ∷ bs) ≡ are_units due bs
first b due bs e = rw e refl

two_bytes : (b c : ℕ) (rest : List ℕ) → 194 ≤ b → b ≤ 223 → 128 ≤ c → c ≤ 191 → are_units [] (b ∷ c ∷ rest) ≡ are_units [] rest
two_bytes b c rest l h m k = first b ((128, 191) ∷ []) (c ∷ rest) (two_due b l h) ∙ in_due 128 191 c [] rest m k

three_bytes : (b c d : ℕ) (rest : List ℕ) → 225 ≤ b → b ≤ 239 → 128 ≤ c → c ≤ 191 → 128 ≤ d → d ≤ 191 → are_units [] (b ∷ c ∷ d ∷ rest) ≡ are_units [] rest
three_bytes b c d rest l h m k n o = first b ((128, 191) ∷ (128, 191) ∷ []) (c ∷ d ∷ rest) (three_due b l h) ∙ in_due 128 191 c ((128, 191) ∷ []) (d ∷ rest) m k ∙ in_due 128 191 d [] rest n o

low_three : (c d : ℕ) (rest : List ℕ) → 160 ≤ c → c ≤ 191 → 128 ≤ d → d ≤ 191 → are_units [] (224 ∷ c ∷ d ∷ rest) ≡ are_units [] rest
low_three c d rest m k n o = first 224 ((160, 191) ∷ (128, 191) ∷ []) (c ∷ d ∷ rest) refl ∙ in_due 160 191 c ((128, 191) ∷ []) (d ∷ rest) m k ∙ in_due 128 191 d [] rest n o

-- ---- units that are spelled pass

above_zero : (u : ℕ) → (nat_lt 0 u && nat_lt u 128) ≡ true → 1 ≤ u
above_zero u e = grind (arith, nat_tests)

below_128 : (u : ℕ) → (nat_lt 0 u && nat_lt u 128) ≡ true → u ≤ 127
below_128 u e = grind (arith, nat_tests)

from_128 : (u : ℕ) → 0 < u → (nat_lt 0 u && nat_lt u 128) ≡ false → 128 ≤ u
from_128 u l e = grind (arith, nat_tests)

below_2048 : (u : ℕ) → nat_lt u 2048 ≡ true → u < 2048
below_2048 u e = grind (arith, nat_tests)

from_2048 : (u : ℕ) → nat_lt u 2048 ≡ false → 2048 ≤ u
from_2048 u e = grind (arith, nat_tests)

abbrev unit_of : Bool → Bool → ℕ → List ℕ
unit_of c d u = if c then u ∷ [] else if d then (192 + u / 64) ∷ (128 + u % 64) ∷ [] else (224 + u / 4096) ∷ (128 + u / 64 % 64) ∷ (128 + u % 64) ∷ []

high_passes : (u : ℕ) (rest : List ℕ) → 2048 ≤ u → u < 2 ^ 16 → are_units [] ((224 + u / 4096) ∷ (128 + u / 64 % 64) ∷ (128 + u % 64) ∷ rest) ≡ are_units [] rest
high_passes u rest l h = go (u / 4096) refl
  where
    go : (q : ℕ) → u / 4096 ≡ q → are_units [] ((224 + u / 4096) ∷ (128 + u / 64 % 64) ∷ (128 + u % 64) ∷ rest) ≡ are_units [] rest
    go zero e =
        ap (λ q. are_units [] ((224 + q) ∷ (128 + u / 64 % 64) ∷ (128 + u % 64) ∷ rest)) e
        ∙ low_three (128 + u / 64 % 64) (128 + u % 64) rest (omega (arith, l, e)) (omega arith) (omega arith) (omega arith)
    go (suc q) e = three_bytes (224 + u / 4096) (128 + u / 64 % 64) (128 + u % 64) rest (omega (arith, e)) (omega (arith, h)) (omega arith) (omega arith) (omega arith) (omega arith)

unit_passes : (u : ℕ) (rest : List ℕ) → u < 2 ^ 16 → are_units [] (unit_bytes u ++ rest) ≡ are_units [] rest
unit_passes zero rest l = first 192 ((128, 128) ∷ []) (128 ∷ rest) refl ∙ in_due 128 128 128 [] rest (omega arith) (omega arith)
unit_passes (suc k) rest l = go (nat_lt 0 (suc k) && nat_lt (suc k) 128) (nat_lt (suc k) 2048) refl refl
  where
    go : (c d : Bool) → (nat_lt 0 (suc k) && nat_lt (suc k) 128) ≡ c → nat_lt (suc k) 2048 ≡ d → are_units [] (unit_of c d (suc k) ++ rest) ≡ are_units [] rest
    go true d e f = first (suc k) [] rest (one_due (suc k) (above_zero (suc k) e) (below_128 (suc k) e))
    go false true e f =
        let low = from_128 (suc k) (omega arith) e in
        let high = below_2048 (suc k) f in
        two_bytes (192 + suc k / 64) (128 + suc k % 64) rest (omega (arith, low)) (omega (arith, high)) (omega arith) (omega arith)
    go false false e f = high_passes (suc k) rest (from_2048 (suc k) f) l

pub spelled : (units : List ℕ) → AreUnits units → is_modified_utf8 (units_bytes units) ≡ true
spelled [] h = refl
spelled (u ∷ us) h = unit_passes u (units_bytes us) h.0 ∙ spelled us h.1

-- ---- bytes that pass are of units

one_unit : (u : ℕ) → 1 ≤ u → u ≤ 127 → unit_bytes u ≡ u ∷ []
one_unit u l h = let c : (nat_lt 0 u && nat_lt u 128) ≡ true = grind (arith, nat_tests) in rw c refl

two_unit : (u : ℕ) → 128 ≤ u → u < 2048 → unit_bytes u ≡ (192 + u / 64) ∷ (128 + u % 64) ∷ []
two_unit u l h =
    let c : (nat_lt 0 u && nat_lt u 128) ≡ false = grind (arith, nat_tests) in
    let d : nat_lt u 2048 ≡ true = grind (arith, nat_tests) in rw (c, d) refl

three_unit : (u : ℕ) → 2048 ≤ u → unit_bytes u ≡ (224 + u / 4096) ∷ (128 + u / 64 % 64) ∷ (128 + u % 64) ∷ []
three_unit u l =
    let c : (nat_lt 0 u && nat_lt u 128) ≡ false = grind (arith, nat_tests) in
    let d : nat_lt u 2048 ≡ false = grind (arith, nat_tests) in rw (c, d) refl

same_two : (a b a' b' : ℕ) → a ≡ a' → b ≡ b' → Path (List ℕ) (a ∷ b ∷ []) (a' ∷ b' ∷ [])
same_two a b a' b' p q = cc

same_three : (a b c a' b' c' : ℕ) → a ≡ a' → b ≡ b' → c ≡ c' → Path (List ℕ) (a ∷ b ∷ c ∷ []) (a' ∷ b' ∷ c' ∷ [])
same_three a b c a' b' c' p q r = cc

two_told : (b c : ℕ) → 194 ≤ b → b ≤ 223 → 128 ≤ c → c ≤ 191 → unit_bytes ((b - 192) * 64 + (c - 128)) ≡ b ∷ c ∷ []
two_told b c l h m k =
    let u = (b - 192) * 64 + (c - 128) in
    two_unit u (omega (arith, l, m)) (omega (arith, h, k)) ∙ same_two (192 + u / 64) (128 + u % 64) b c (omega (arith, l, h, m, k)) (omega (arith, l, h, m, k))

three_told : (b c d : ℕ) → 224 ≤ b → b ≤ 239 → 128 ≤ c → c ≤ 191 → 128 ≤ d → d ≤ 191 → 2048 ≤ (b - 224) * 4096 + (c - 128) * 64 + (d - 128)
    → unit_bytes ((b - 224) * 4096 + (c - 128) * 64 + (d - 128)) ≡ b ∷ c ∷ d ∷ []
three_told b c d l h m k n o low =
    let u = (b - 224) * 4096 + (c - 128) * 64 + (d - 128) in
    three_unit u low ∙ same_three (224 + u / 4096) (128 + u / 64 % 64) (128 + u % 64) b c d (omega (arith, l, h, m, k, n, o)) (omega (arith, l, h, m, k, n, o)) (omega (arith, l, h, m, k, n, o))

joined : (u : ℕ) (front rest bytes : List ℕ) → u < 2 ^ 16 → bytes ≡ front ++ rest → unit_bytes u ≡ front → UnitsOf rest → UnitsOf bytes
joined u front rest bytes l e f r = record { units = u ∷ r.units; within = (l, r.within); is = e ∙ ap (λ b. b ++ rest) (sym f) ∙ ap (λ t. unit_bytes u ++ t) r.is }

-- a byte that was due is there, in its range
record Taken (low high : ℕ) (due : List (ℕ × ℕ)) (bytes : List ℕ) : Type 0 where
  byte : ℕ
  rest : List ℕ
  is : bytes ≡ byte ∷ rest
  from : low ≤ byte
  up_to : byte ≤ high
  more : are_units due rest ≡ true

from_low : (low high b : ℕ) → is_in (low, high) b ≡ true → low ≤ b
from_low low high b e = grind (arith, nat_tests)

up_to_high : (low high b : ℕ) → is_in (low, high) b ≡ true → b ≤ high
up_to_high low high b e = grind (arith, nat_tests)

taken : (low high : ℕ) (due : List (ℕ × ℕ)) (bytes : List ℕ) → are_units ((low, high) ∷ due) bytes ≡ true → Taken low high due bytes
taken low high due [] e = absurd cc
taken low high due (b ∷ bs) e = go (is_in (low, high) b) refl e
  where
    go : (c : Bool) → is_in (low, high) b ≡ c → is_some_and (λ due. are_units due bs) (cond c (Some due) None) ≡ true → Taken low high due (b ∷ bs)
    go true h e = record { byte = b; rest = bs; is = refl; from = from_low low high b h; up_to = up_to_high low high b h; more = e }
    go false h e = absurd cc

is_it : (n b : ℕ) → nat_eq b n ≡ true → b ≡ n
is_it n b e = grind (arith, nat_tests)

abbrev chain : Bool → Bool → Bool → Bool → Bool → Option (List (ℕ × ℕ))
chain p q r s t =
    if p then Some []
    else if q then Some ((128, 128) ∷ [])
    else if r then Some ((128, 191) ∷ [])
    else if s then Some ((160, 191) ∷ (128, 191) ∷ [])
    else if t then Some ((128, 191) ∷ (128, 191) ∷ [])
    else None

pub told : (fuel : ℕ) (bytes : List ℕ) → length bytes ≤ fuel → is_modified_utf8 bytes ≡ true → UnitsOf bytes
told fuel [] l e = record { units = []; within = tt; is = refl }
told zero (b ∷ bs) l e = absurd (omega (arith, l))
told (suc fuel) (b ∷ bs) l e = go (told fuel) (is_in (1, 127) b) (nat_eq b 192) (is_in (194, 223) b) (nat_eq b 224) (is_in (225, 239) b) refl refl refl refl refl e
  where
    go : ((rest : List ℕ) → length rest ≤ fuel → is_modified_utf8 rest ≡ true → UnitsOf rest) → (p q r s t : Bool) → is_in (1, 127) b ≡ p → nat_eq b 192 ≡ q → is_in (194, 223) b ≡ r → nat_eq b 224 ≡ s → is_in (225, 239) b ≡ t
        → is_some_and (λ due. are_units due bs) (chain p q r s t) ≡ true → UnitsOf (b ∷ bs)
    go again true q r s t a f g h i e =
        let h = up_to_high 1 127 b a in
        joined b (b ∷ []) bs (b ∷ bs) (omega (arith, h)) refl (one_unit b (from_low 1 127 b a) h) (again bs (omega (arith, l)) e)
    go again false true r s t a f g h i e =
        let x = taken 128 128 [] bs e in
        joined 0 (192 ∷ 128 ∷ []) x.rest (b ∷ bs) (omega arith)
        (ap (λ b. b ∷ bs) (is_it 192 b f) ∙ ap (λ bs. 192 ∷ bs) (x.is ∙ ap (λ c. c ∷ x.rest) (omega (arith, x.from, x.up_to)))) refl
        (again x.rest (omega (arith, l, ap length x.is)) x.more)
    go again false false true s t a f g h i e =
        let x = taken 128 191 [] bs e in
        let low = from_low 194 223 b g in
        let high = up_to_high 194 223 b g in
        joined ((b - 192) * 64 + (x.byte - 128)) (b ∷ x.byte ∷ []) x.rest (b ∷ bs) (omega (arith, high, x.up_to)) (ap (λ bs. b ∷ bs) x.is) (two_told b x.byte low high x.from x.up_to)
        (again x.rest (omega (arith, l, ap length x.is)) x.more)
    go again false false false true t a f g h i e =
        let x = taken 160 191 ((128, 191) ∷ []) bs e in
        let y = taken 128 191 [] x.rest x.more in
        let first = is_it 224 b h in
        joined ((b - 224) * 4096 + (x.byte - 128) * 64 + (y.byte - 128)) (b ∷ x.byte ∷ y.byte ∷ []) y.rest (b ∷ bs) (omega (arith, first, x.up_to, y.up_to))
        (ap (λ bs. b ∷ bs) (x.is ∙ ap (λ bs. x.byte ∷ bs) y.is))
        (three_told b x.byte y.byte (omega (arith, first)) (omega (arith, first)) (omega (arith, x.from)) x.up_to y.from y.up_to (omega (arith, first, x.from)))
        (again y.rest (omega (arith, l, ap length x.is, ap length y.is)) y.more)
    go again false false false false true a f g h i e =
        let x = taken 128 191 ((128, 191) ∷ []) bs e in
        let y = taken 128 191 [] x.rest x.more in
        let low = from_low 225 239 b i in
        let high = up_to_high 225 239 b i in
        joined ((b - 224) * 4096 + (x.byte - 128) * 64 + (y.byte - 128)) (b ∷ x.byte ∷ y.byte ∷ []) y.rest (b ∷ bs) (omega (arith, high, x.up_to, y.up_to))
        (ap (λ bs. b ∷ bs) (x.is ∙ ap (λ bs. x.byte ∷ bs) y.is))
        (three_told b x.byte y.byte (omega (arith, low)) high x.from x.up_to y.from y.up_to (omega (arith, low)))
        (again y.rest (omega (arith, l, ap length x.is, ap length y.is)) y.more)
    go again false false false false false a f g h i e = absurd cc
