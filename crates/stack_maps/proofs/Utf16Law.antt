-- The text that is found is the one that the bytes spell, and there is one where any is spelled.
use Rattle.std.proofs.Common.{◌≡◌, ℕ, zero, suc, ◌+◌, ◌-◌, ◌/◌, ◌%◌, ◌<◌, ◌≤◌, ◌^◌, nat_le, nat_lt, Bool, true, false, not, ◌&&◌, if◌then◌else◌, cond, is_some, List, [], ◌∷◌, ◌++◌, map, get_or, length, Option, None, Some, refl, sym, ap, ◌∙◌, arith}
use Rattle.std.proofs.lemmas.Bool.Decides.{nat_tests}
use Rattle.std.proofs.lemmas.Str.{utf16_chars-nil, utf16_chars_lone, utf16_chars_pair}
use Rattle.std.proofs.lemmas.Slice.Eq.{bytes_eq-Decides}
use Rattle.std.specs.Char.Escape.{encode_utf16}
use Rattle.std.specs.Char.Utf16.{utf16_chars, utf16_lossy_chars, has_unpaired_surrogate, lone_unit_char, surrogate_pair_char, is_high_surrogate, is_low_surrogate}
use Rattle.std.specs.List.{flat_map, list_any}
use Rattle.std.specs.Option.{unwrap_or}
use Rattle.std.specs.Str.{all_scalars, bytes_eq}
use Rattle.std.proofs.Math.Utf8.{scalar}
use Rattle.jvm_code.specs.StackMaps.{text_bytes}
use Rattle.jvm_code.specs.Units.{AreUnits, units_bytes}
use Rattle.stack_maps.specs.Texts.{is_behind, first_bits, more_bits, units_from, units_of, paired_text, text_of_units, text_of}
use Rattle.stack_maps.proofs.TextsLaw.{units_back}

-- ---- the characters of the units of characters

lone_is : (c : ℕ) → scalar c ≡ true → c < 0x1_0000 → lone_unit_char c ≡ Some c
lone_is c s l = let e : (nat_le 0xD800 c && nat_lt c 0xE000) ≡ false = grind (arith, nat_tests) in rw e refl

no_pair : (c v : ℕ) → scalar c ≡ true → (0xD800 ≤ c) × (c < 0xDC00) × (0xDC00 ≤ v) × (v < 0xE000) → ⊥
no_pair c v s p = let l = p.0 in let h = p.1 in grind (arith, nat_tests)

pair_is : (c : ℕ) → 0x1_0000 ≤ c → c < 0x11_0000 → surrogate_pair_char (0xD800 + (c - 0x1_0000) / 0x400) (0xDC00 + (c - 0x1_0000) % 0x400) ≡ c
pair_is c l h = omega (arith, l, h)

below : (c : ℕ) → scalar c ≡ true → c < 0x11_0000
below c s = grind (arith, nat_tests)

first_scalar : (c : ℕ) (cs : List ℕ) → all_scalars (c ∷ cs) ≡ true → (scalar c ≡ true) × (all_scalars cs ≡ true)
first_scalar c cs e = go (scalar c) e
  where
    go : (b : Bool) → (b && all_scalars cs) ≡ true → (b ≡ true) × (all_scalars cs ≡ true)
    go true e = (refl, e)
    go false e = absurd cc

one_back : (c : ℕ) (us : List ℕ) → scalar c ≡ true → utf16_chars (encode_utf16 c ++ us) ≡ Some c ∷ utf16_chars us
one_back c us s = go (nat_lt c 0x1_0000) refl
  where
    go : (b : Bool) → nat_lt c 0x1_0000 ≡ b → utf16_chars (cond b (c ∷ []) ((0xD800 + (c - 0x1_0000) / 0x400) ∷ (0xDC00 + (c - 0x1_0000) % 0x400) ∷ []) ++ us) ≡ Some c ∷ utf16_chars us
    go true e = utf16_chars_lone c us (no_pair c (get_or us 0 0) s) ∙ ap (λ o. o ∷ utf16_chars us) (lone_is c s (grind (arith, nat_tests)))
    go false e =
        let l : 0x1_0000 ≤ c = grind (arith, nat_tests) in
        let h = below c s in
        utf16_chars_pair (0xD800 + (c - 0x1_0000) / 0x400) (0xDC00 + (c - 0x1_0000) % 0x400) us (omega arith, omega (arith, l, h), omega arith, omega arith)
        ∙ ap (λ c. Some c ∷ utf16_chars us) (pair_is c l h)

chars_back : (cs : List ℕ) → all_scalars cs ≡ true → utf16_chars (flat_map encode_utf16 cs) ≡ map Some cs
chars_back [] s = utf16_chars-nil
chars_back (c ∷ cs) s = let p = first_scalar c cs s in one_back c (flat_map encode_utf16 cs) p.0 ∙ ap (λ os. Some c ∷ os) (chars_back cs p.1)

unwrapped : (cs : List ℕ) → map (λ o. unwrap_or o 0xFFFD) (map Some cs) ≡ cs
unwrapped [] = refl
unwrapped (c ∷ cs) = ap (λ cs. c ∷ cs) (unwrapped cs)

none_lost : (cs : List ℕ) → list_any (λ (o : Option ℕ). not (is_some o)) (map Some cs) ≡ false
none_lost [] = refl
none_lost (c ∷ cs) = none_lost cs

paired_back : (cs : List ℕ) → all_scalars cs ≡ true → paired_text (flat_map encode_utf16 cs) ≡ Some cs
paired_back cs s =
    ap (λ os. if list_any (λ (o : Option ℕ). not (is_some o)) os then None else Some (map (λ o. unwrap_or o 0xFFFD) os)) (chars_back cs s)
    ∙ ap (λ b. if b then None else Some (map (λ o. unwrap_or o 0xFFFD) (map Some cs))) (none_lost cs) ∙ ap Some (unwrapped cs)

-- ---- units are below 2^16

units_more : (u : ℕ) (us : List ℕ) → u < 2 ^ 16 → AreUnits us → AreUnits (u ∷ us)
units_more u us l h = (l, h)

char_units : (c : ℕ) (us : List ℕ) → scalar c ≡ true → AreUnits us → AreUnits (encode_utf16 c ++ us)
char_units c us s h = go (nat_lt c 0x1_0000) refl
  where
    go : (b : Bool) → nat_lt c 0x1_0000 ≡ b → AreUnits (cond b (c ∷ []) ((0xD800 + (c - 0x1_0000) / 0x400) ∷ (0xDC00 + (c - 0x1_0000) % 0x400) ∷ []) ++ us)
    go true e = (grind (arith, nat_tests), h)
    go false e = let l = below c s in (omega (arith, l), (omega arith, h))

text_units : (cs : List ℕ) → all_scalars cs ≡ true → AreUnits (flat_map encode_utf16 cs)
text_units [] s = tt
text_units (c ∷ cs) s = let p = first_scalar c cs s in char_units c (flat_map encode_utf16 cs) p.0 (text_units cs p.1)

bytes_same : (bs : List ℕ) → bytes_eq bs bs ≡ true
bytes_same bs = (bytes_eq-Decides bs bs).1 refl

-- a text is told by its bytes
pub text_back : (text : List ℕ) → all_scalars text ≡ true → text_of (text_bytes text) ≡ Some text
text_back text s =
    ap (text_of_units (text_bytes text)) (units_back (flat_map encode_utf16 text) (text_units text s))
    ∙ ap (λ c. if c then paired_text (flat_map encode_utf16 text) else None) (bytes_same (text_bytes text)) ∙ paired_back text s

-- ---- and a text that is found has the bytes

first_small : (b : ℕ) → first_bits b < 2 ^ 16
first_small b = go (nat_lt b 128) (nat_lt b 224) refl
  where
    go : (c d : Bool) → nat_lt b 128 ≡ c → (if c then b else if d then b % 32 else b % 16) < 2 ^ 16
    go true d e = let l : b < 128 = grind (arith, nat_tests) in omega (arith, l)
    go false true e = omega arith
    go false false e = omega arith

from_units : (u : ℕ) (bs : List ℕ) → u < 2 ^ 16 → AreUnits (units_from u bs)
from_units u [] l = (l, tt)
from_units u (b ∷ bs) l = go (is_behind b) (from_units (more_bits u b) bs (omega arith)) (from_units (first_bits b) bs (first_small b))
  where
    go : (c : Bool) → AreUnits (units_from (more_bits u b) bs) → AreUnits (units_from (first_bits b) bs) → AreUnits (if c then units_from (more_bits u b) bs else u ∷ units_from (first_bits b) bs)
    go true m f = m
    go false m f = (l, f)

are_units : (bs : List ℕ) → AreUnits (units_of bs)
are_units [] = tt
are_units (b ∷ bs) = from_units (first_bits b) bs (first_small b)

-- characters whose units these are
record CharsOf (us : List ℕ) : Type 0 where
  cs : List ℕ
  unicode : all_scalars cs ≡ true
  chars : utf16_chars us ≡ map Some cs
  is : us ≡ flat_map encode_utf16 cs

abbrev lost : List (Option ℕ) → Bool
lost os = list_any (λ (o : Option ℕ). not (is_some o)) os

more_chars : (c : ℕ) (us rest : List ℕ) → scalar c ≡ true → us ≡ encode_utf16 c ++ rest → utf16_chars us ≡ Some c ∷ utf16_chars rest → CharsOf rest → CharsOf us
more_chars c us rest s e f r = record {
  cs = c ∷ r.cs;
  unicode = ap (λ b. b && all_scalars r.cs) s ∙ r.unicode;
  chars = f ∙ ap (λ os. Some c ∷ os) r.chars;
  is = e ∙ ap (λ us. encode_utf16 c ++ us) r.is;
}

lone_told : (u : ℕ) (b : Bool) → (nat_le 0xD800 u && nat_lt u 0xE000) ≡ b → (rest : List (Option ℕ)) → lost ((if b then None else Some u) ∷ rest) ≡ false → (b ≡ false) × (lost rest ≡ false)
lone_told u true e rest h = absurd cc
lone_told u false e rest h = (refl, h)

lone_scalar : (u : ℕ) → u < 2 ^ 16 → (nat_le 0xD800 u && nat_lt u 0xE000) ≡ false → scalar u ≡ true
lone_scalar u l e = grind (arith, nat_tests)

lone_units : (u : ℕ) → u < 2 ^ 16 → encode_utf16 u ≡ u ∷ []
lone_units u l = let e : nat_lt u 0x1_0000 ≡ true = grind (arith, nat_tests) in rw e refl

-- a pair, by its tests
record Pair (u v : ℕ) : Type 0 where
  first_from : 0xD800 ≤ u
  first_below : u < 0xDC00
  second_from : 0xDC00 ≤ v
  second_below : v < 0xE000

pair_told : (u v : ℕ) → (is_high_surrogate u && is_low_surrogate v) ≡ true → Pair u v
pair_told u v e = record { first_from = grind (arith, nat_tests); first_below = grind (arith, nat_tests); second_from = grind (arith, nat_tests); second_below = grind (arith, nat_tests) }

no_pair_told : (u v : ℕ) → (is_high_surrogate u && is_low_surrogate v) ≡ false → (0xD800 ≤ u) × (u < 0xDC00) × (0xDC00 ≤ v) × (v < 0xE000) → ⊥
no_pair_told u v e p = let a = p.0 in let b = p.1 in let c = p.2 in let d = p.3 in grind (arith, nat_tests)

pair_scalar : (u v : ℕ) → Pair u v → scalar (surrogate_pair_char u v) ≡ true
pair_scalar u v p =
    let a = p.first_from in let b = p.first_below in let c = p.second_from in let d = p.second_below in
    above (surrogate_pair_char u v) (omega arith) (omega arith)
  where
    above : (n : ℕ) → 0x1_0000 ≤ n → n < 0x11_0000 → scalar n ≡ true
    above n l h = grind (arith, nat_tests)

pair_units : (u v : ℕ) → Pair u v → encode_utf16 (surrogate_pair_char u v) ≡ u ∷ v ∷ []
pair_units u v p =
    let a = p.first_from in let b = p.first_below in let c = p.second_from in let d = p.second_below in
    high (surrogate_pair_char u v) (omega arith) ∙ two _ _ u v (omega arith) (omega arith)
  where
    high : (n : ℕ) → 0x1_0000 ≤ n → encode_utf16 n ≡ (0xD800 + (n - 0x1_0000) / 0x400) ∷ (0xDC00 + (n - 0x1_0000) % 0x400) ∷ []
    high n l = let e : nat_lt n 0x1_0000 ≡ false = grind (arith, nat_tests) in rw e refl

    two : (a b c d : ℕ) → a ≡ c → b ≡ d → Path (List ℕ) (a ∷ b ∷ []) (c ∷ d ∷ [])
    two a b c d p q = cc

chars_told : (fuel : ℕ) (us : List ℕ) → length us ≤ fuel → AreUnits us → lost (utf16_chars us) ≡ false → CharsOf us
chars_told fuel [] l h n = record { cs = []; unicode = refl; chars = utf16_chars-nil; is = refl }
chars_told zero (u ∷ us) l h n = absurd (omega (arith, l))
chars_told (suc fuel) (u ∷ us) l h n = go (chars_told fuel) us (is_high_surrogate u && is_low_surrogate (get_or us 0 0)) refl l h n
  where
    go : ((us : List ℕ) → length us ≤ fuel → AreUnits us → lost (utf16_chars us) ≡ false → CharsOf us) → (us : List ℕ) (b : Bool) → (is_high_surrogate u && is_low_surrogate (get_or us 0 0)) ≡ b → length (u ∷ us) ≤ suc fuel → AreUnits (u ∷ us) → lost (utf16_chars (u ∷ us)) ≡ false → CharsOf (u ∷ us)
    go again us false e l h n =
        let c = utf16_chars_lone u us (no_pair_told u (get_or us 0 0) e) in
        let t = lone_told u (nat_le 0xD800 u && nat_lt u 0xE000) refl (utf16_chars us) (ap lost (sym c) ∙ n) in
        more_chars u (u ∷ us) us (lone_scalar u h.0 t.0) (ap (λ f. f ++ us) (sym (lone_units u h.0)))
        (c ∙ ap (λ b. (if b then None else Some u) ∷ utf16_chars us) t.0) (again us (omega (arith, l)) h.1 t.1)
    go again [] true e l h n = let p = (pair_told u 0 e).second_from in absurd (omega (arith, p))
    go again (v ∷ us) true e l h n =
        let p = pair_told u v e in
        let c = utf16_chars_pair u v us (p.first_from, p.first_below, p.second_from, p.second_below) in
        more_chars (surrogate_pair_char u v) (u ∷ v ∷ us) us (pair_scalar u v p) (ap (λ f. f ++ us) (sym (pair_units u v p))) c
        (again us (omega (arith, l)) h.1.1 (ap lost (sym c) ∙ n))

-- a text that was found, with its bytes
pub record Found (bytes text : List ℕ) : Type 0 where
  pub unicode : all_scalars text ≡ true
  pub is : bytes ≡ text_bytes text

some_is : (x y : List ℕ) → Path (Option (List ℕ)) (Some x) (Some y) → x ≡ y
some_is x y e = cc

pub text_told : (bytes text : List ℕ) → text_of bytes ≡ Some text → Found bytes text
text_told bytes text e = go (bytes_eq (units_bytes (units_of bytes)) bytes) (has_unpaired_surrogate (units_of bytes)) refl refl e
  where
    go : (c d : Bool) → bytes_eq (units_bytes (units_of bytes)) bytes ≡ c → has_unpaired_surrogate (units_of bytes) ≡ d
        → (if c then if d then None else Some (utf16_lossy_chars (units_of bytes)) else None) ≡ Some text → Found bytes text
    go true false p q e =
        let r = chars_told (length (units_of bytes)) (units_of bytes) (omega arith) (are_units bytes) q in
        let t : text ≡ r.cs = sym (some_is _ text e) ∙ ap (λ os. map (λ o. unwrap_or o 0xFFFD) os) r.chars ∙ unwrapped r.cs in
        record {
          unicode = ap all_scalars t ∙ r.unicode;
          is = sym ((bytes_eq-Decides (units_bytes (units_of bytes)) bytes).0 p) ∙ ap units_bytes r.is ∙ ap text_bytes (sym t);
        }
    go true true p q e = absurd cc
    go false d p q e = absurd cc
