-- A text passes as a mangled name exactly where one is mangled to it.
use Rattle.std.proofs.Common.{◌≡◌, ℕ, ◌+◌, ◌-◌, ◌*◌, ◌/◌, ◌%◌, ◌<◌, ◌≤◌, nat_eq, nat_le, nat_lt, Bool, true, false, ◌&&◌, cond, List, [], ◌∷◌, ◌++◌, Option, None, Some, option_map, option_and_then, flat_map, refl, sym, ap, ◌∙◌, arith}
use Rattle.std.proofs.lemmas.Bool.Decides.{nat_tests}
use Rattle.jvm_code.specs.Names.{is_kept, upper_digit, mangle_byte, hexadecimal, Place, Before, Dollar, High, behind_digit, escaped, read_byte, unmangle_from, unmangle}

-- each is a byte
abbrev pub Bytes : List ℕ → Type 0
Bytes [] = Unit {0}
Bytes (b ∷ bs) = (b < 256) × Bytes bs

-- ---- a name that is mangled is read again

digit_low : (d b : ℕ) → d < 10 → b ≡ 48 + d → hexadecimal b ≡ Some d
digit_low d b l e =
    let c : (nat_le 48 b && nat_le b 57) ≡ true = grind (arith, nat_tests) in
    rw c (ap (λ n. Some n) (omega (arith, e)))

digit_high : (d b : ℕ) → 10 ≤ d → d < 16 → b ≡ 55 + d → hexadecimal b ≡ Some d
digit_high d b l h e =
    let c : (nat_le 48 b && nat_le b 57) ≡ false = grind (arith, nat_tests) in
    let f : (nat_le 65 b && nat_le b 70) ≡ true = grind (arith, nat_tests) in
    rw (c, f) (ap (λ n. Some n) (omega (arith, e)))

digit_read : (d : ℕ) → d < 16 → hexadecimal (upper_digit d) ≡ Some d
digit_read d l = go (nat_lt d 10) refl
  where
    go : (c : Bool) → nat_lt d 10 ≡ c → hexadecimal (cond c (48 + d) (55 + d)) ≡ Some d
    go true e = digit_low d (48 + d) (grind (arith, nat_tests)) refl
    go false e = digit_high d (55 + d) (grind (arith, nat_tests)) l refl

escape_read : (b : ℕ) → is_kept b ≡ false → escaped (b / 16) (Some (b % 16)) ≡ Some (Before, b ∷ [])
escape_read b k =
    let same : 16 * (b / 16) + b % 16 ≡ b = omega arith in
    ap (λ v. cond (is_kept v) None (Some (Before, v ∷ []))) same ∙ ap (λ c. cond c None (Some (Before, b ∷ []))) k

abbrev Read : Type 0
Read = Place × List ℕ

abbrev onto : List ℕ → Option (List ℕ) → Option (List ℕ)
onto front rest = option_map (λ more. front ++ more) rest

onto_none : (o : Option (List ℕ)) → onto [] o ≡ o
onto_none None = refl
onto_none (Some x) = refl

-- what is read of the rest behind a byte
abbrev behind : List ℕ → Option Read → Option (List ℕ)
behind rest o = option_and_then (λ (r : Read). option_map (λ more. r.1 ++ more) (unmangle_from r.0 rest)) o

not_dollar : (b : ℕ) → is_kept b ≡ true → nat_eq b 36 ≡ false
not_dollar b k = go (nat_eq b 36) refl
  where
    go : (c : Bool) → nat_eq b 36 ≡ c → c ≡ false
    go false e = refl
    go true e = let same : b ≡ 36 = grind (arith, nat_tests) in absurd (let t : Path Bool false true = sym (ap is_kept same) ∙ k in cc)

kept_read : (b : ℕ) → is_kept b ≡ true → read_byte Before b ≡ Some (Before, b ∷ [])
kept_read b k = rw (not_dollar b k, k) refl

dollar_step : (h d : ℕ) (rest : List ℕ) → hexadecimal h ≡ Some d → unmangle_from Dollar (h ∷ rest) ≡ unmangle_from (High d) rest
dollar_step h d rest e = ap (λ o. behind rest (behind_digit o)) e ∙ onto_none (unmangle_from (High d) rest)

high_step : (d l b : ℕ) (rest : List ℕ) → escaped d (hexadecimal l) ≡ Some (Before, b ∷ []) → unmangle_from (High d) (l ∷ rest) ≡ onto (b ∷ []) (unmangle_from Before rest)
high_step d l b rest e = ap (behind rest) e

step : (b : ℕ) (rest : List ℕ) → b < 256 → unmangle_from Before (mangle_byte b ++ rest) ≡ onto (b ∷ []) (unmangle_from Before rest)
step b rest l = go (is_kept b) refl
  where
    go : (c : Bool) → is_kept b ≡ c → unmangle_from Before (cond c (b ∷ []) (36 ∷ upper_digit (b / 16) ∷ upper_digit (b % 16) ∷ []) ++ rest) ≡ onto (b ∷ []) (unmangle_from Before rest)
    go true k = ap (behind rest) (kept_read b k)
    go false k =
        onto_none (unmangle_from Dollar (upper_digit (b / 16) ∷ upper_digit (b % 16) ∷ rest))
        ∙ dollar_step (upper_digit (b / 16)) (b / 16) (upper_digit (b % 16) ∷ rest) (digit_read (b / 16) (omega (arith, l)))
        ∙ high_step (b / 16) (upper_digit (b % 16)) b rest (ap (escaped (b / 16)) (digit_read (b % 16) (omega arith)) ∙ escape_read b k)

pub unmangled : (bs : List ℕ) → Bytes bs → unmangle (flat_map mangle_byte bs) ≡ Some bs
unmangled [] h = refl
unmangled (b ∷ bs) h = step b (flat_map mangle_byte bs) h.0 ∙ ap (onto (b ∷ [])) (unmangled bs h.1)

-- ---- what is read is mangled so

record Mapped (front : List ℕ) (o : Option (List ℕ)) (all : List ℕ) : Type 0 where
  more : List ℕ
  was : o ≡ Some more
  is : front ++ more ≡ all

mapped : (front : List ℕ) (o : Option (List ℕ)) (all : List ℕ) → onto front o ≡ Some all → Mapped front o all
mapped front None all e = absurd cc
mapped front (Some m) all e = record { more = m; was = refl; is = cc }

digit_told : (b d : ℕ) → hexadecimal b ≡ Some d → (b ≡ upper_digit d) × (d < 16)
digit_told b d e = go (nat_le 48 b && nat_le b 57) (nat_le 65 b && nat_le b 70) refl refl e
  where
    go : (p q : Bool) → (nat_le 48 b && nat_le b 57) ≡ p → (nat_le 65 b && nat_le b 70) ≡ q → cond p (Some (b - 48)) (cond q (Some (b - 55)) None) ≡ Some d → (b ≡ upper_digit d) × (d < 16)
    go true q f g e =
        let is : b - 48 ≡ d = cc in
        let low : 48 ≤ b = grind (arith, nat_tests) in
        let high : b ≤ 57 = grind (arith, nat_tests) in
        let c : nat_lt d 10 ≡ true = grind (arith, nat_tests) in
        (sym (ap (λ c. cond c (48 + d) (55 + d)) c ∙ omega (arith, is, low)), omega (arith, is, high))
    go false true f g e =
        let is : b - 55 ≡ d = cc in
        let low : 65 ≤ b = grind (arith, nat_tests) in
        let high : b ≤ 70 = grind (arith, nat_tests) in
        let c : nat_lt d 10 ≡ false = grind (arith, nat_tests) in
        (sym (ap (λ c. cond c (48 + d) (55 + d)) c ∙ omega (arith, is, low)), omega (arith, is, high))
    go false false f g e = absurd cc

-- what is behind the `$` of a byte
deep_told : (h l : ℕ) (more bs : List ℕ) → ((m : List ℕ) → unmangle_from Before more ≡ Some m → more ≡ flat_map mangle_byte m)
    → unmangle_from Dollar (h ∷ l ∷ more) ≡ Some bs → 36 ∷ h ∷ l ∷ more ≡ flat_map mangle_byte bs
deep_told h l more bs again e = first (hexadecimal h) refl e
  where
    third : (d g v : ℕ) → hexadecimal h ≡ Some d → hexadecimal l ≡ Some g → v ≡ 16 * d + g → (c : Bool) → is_kept v ≡ c
        → onto [] (behind more (cond c None (Some (Before, v ∷ [])))) ≡ Some bs → 36 ∷ h ∷ l ∷ more ≡ flat_map mangle_byte bs
    third d g v f i is true k e = absurd cc
    third d g v f i is false k e =
        let m = mapped [] (onto (v ∷ []) (unmangle_from Before more)) bs e in
        let n = mapped (v ∷ []) (unmangle_from Before more) m.more m.was in
        let hd = digit_told h d f in
        let ld = digit_told l g i in
        let high : d ≡ v / 16 = omega (arith, is, ld.1) in
        let low : g ≡ v % 16 = omega (arith, is, ld.1) in
        ap (λ x. 36 ∷ x ∷ l ∷ more) (hd.0 ∙ ap upper_digit high) ∙ ap (λ x. 36 ∷ upper_digit (v / 16) ∷ x ∷ more) (ld.0 ∙ ap upper_digit low)
        ∙ ap (λ r. 36 ∷ upper_digit (v / 16) ∷ upper_digit (v % 16) ∷ r) (again n.more n.was)
        ∙ sym (ap (λ c. cond c (v ∷ []) (36 ∷ upper_digit (v / 16) ∷ upper_digit (v % 16) ∷ []) ++ flat_map mangle_byte n.more) k)
        ∙ ap (flat_map mangle_byte) (n.is ∙ m.is)

    second : (d : ℕ) → hexadecimal h ≡ Some d → (o : Option ℕ) → hexadecimal l ≡ o → onto [] (behind more (escaped d o)) ≡ Some bs → 36 ∷ h ∷ l ∷ more ≡ flat_map mangle_byte bs
    second d f None i e = absurd cc
    second d f (Some g) i e = third d g (16 * d + g) f i refl (is_kept (16 * d + g)) refl e

    first : (o : Option ℕ) → hexadecimal h ≡ o → behind (l ∷ more) (behind_digit o) ≡ Some bs → 36 ∷ h ∷ l ∷ more ≡ flat_map mangle_byte bs
    first None f e = absurd cc
    first (Some d) f e = second d f (hexadecimal l) refl e

one_told : (b : ℕ) (rest bs : List ℕ) → ((m : List ℕ) → unmangle_from Before rest ≡ Some m → rest ≡ flat_map mangle_byte m)
    → (unmangle_from Dollar rest ≡ Some bs → 36 ∷ rest ≡ flat_map mangle_byte bs) → unmangle_from Before (b ∷ rest) ≡ Some bs → b ∷ rest ≡ flat_map mangle_byte bs
one_told b rest bs again deep e = go (nat_eq b 36) (is_kept b) refl refl e
  where
    go : (p q : Bool) → nat_eq b 36 ≡ p → is_kept b ≡ q → behind rest (cond p (Some (Dollar, [])) (cond q (Some (Before, b ∷ [])) None)) ≡ Some bs → b ∷ rest ≡ flat_map mangle_byte bs
    go true q f k e = let is : b ≡ 36 = grind (arith, nat_tests) in ap (λ b. b ∷ rest) is ∙ deep (sym (onto_none (unmangle_from Dollar rest)) ∙ e)
    go false true f k e =
        let m = mapped (b ∷ []) (unmangle_from Before rest) bs e in
        ap (λ r. b ∷ r) (again m.more m.was)
        ∙ sym (ap (λ c. cond c (b ∷ []) (36 ∷ upper_digit (b / 16) ∷ upper_digit (b % 16) ∷ []) ++ flat_map mangle_byte m.more) k) ∙ ap (flat_map mangle_byte) m.is
    go false false f k e = absurd cc

no_end : (h : ℕ) (bs : List ℕ) → unmangle_from Dollar (h ∷ []) ≡ Some bs → ⊥
no_end h bs e = go (hexadecimal h) e
  where
    go : (o : Option ℕ) → behind [] (behind_digit o) ≡ Some bs → ⊥
    go None e = absurd cc
    go (Some d) e = absurd cc

empty_told : (bs : List ℕ) → unmangle_from Before [] ≡ Some bs → [] ≡ flat_map mangle_byte bs
empty_told bs e = let is : Path (List ℕ) [] bs = cc in ap (flat_map mangle_byte) is

pub text_told : (text bs : List ℕ) → unmangle_from Before text ≡ Some bs → text ≡ flat_map mangle_byte bs
text_told [] bs e = empty_told bs e
text_told (b ∷ []) bs e = one_told b [] bs empty_told (λ e. absurd cc) e
text_told (b ∷ h ∷ []) bs e = one_told b (h ∷ []) bs (λ m. text_told (h ∷ []) m) (λ e. absurd (no_end h bs e)) e
text_told (b ∷ h ∷ l ∷ more) bs e = one_told b (h ∷ l ∷ more) bs (λ m. text_told (h ∷ l ∷ more) m) (deep_told h l more bs (λ m. text_told more m)) e
