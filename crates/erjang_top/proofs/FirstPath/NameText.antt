-- The names of classes and methods are short and ASCII, and so modified UTF-8.
use Rattle.std.proofs.Common.{◌≡◌, ℕ, ◌+◌, ◌*◌, ◌/◌, ◌%◌, ◌<◌, ◌≤◌, ◌^◌, inl, inr, Bool, true, false, cond, ◌&&◌, lit≤, nat_lt, nat_le, length-append, encode_utf8_all, List, [], ◌∷◌, ◌++◌, length, codes, refl, ap, arith}
use Rattle.std.specs.List.{flat_map, list_all}
use Rattle.std.specs.Str.{all_scalars}
use Rattle.std.specs.Fmt.{digits, decimal}
use Rattle.std.proofs.Math.Nat.{mod-lt}
use Rattle.std.proofs.Math.Utf8.{scalar, scalar_cases, encode, next}
use Rattle.std.proofs.lemmas.Bool.{and_parts, and_from, lt-ltb, ltb-true, leb-true, agree_below_at}
use Rattle.std.proofs.lemmas.Bool.Decides.{nat_tests}
use Rattle.std.proofs.lemmas.Str.{length-encode, len_utf8_bounds}
use Rattle.erjang_top.specs.first_path.Accepted.{is_atom_name}
use Rattle.erjang_top.specs.first_path.ClassFile.{Constant, Utf8}
use Rattle.erjang_top.specs.first_path.ClassProfile.{modified_utf8, IsModifiedUtf8, IsEntry}
use Rattle.erjang_top.specs.Mangle.{mangle_byte, mangle, class_name, method_name}

-- a character of ASCII but 0
abbrev pub is_inner_ascii : ℕ → Bool
is_inner_ascii c = nat_lt 0 c && nat_lt c 128

modified_utf8-ascii : (c : ℕ) → is_inner_ascii c ≡ true → modified_utf8 c ≡ c ∷ []
modified_utf8-ascii c h = let p = and_parts (nat_lt 0 c) (nat_lt c 128) h in grind (arith, nat_tests)

-- ASCII text but for 0 is modified UTF-8
pub IsModifiedUtf8-ascii : (bytes : List ℕ) → list_all is_inner_ascii bytes ≡ true → IsModifiedUtf8 bytes
IsModifiedUtf8-ascii [] h = ([], tt, refl)
IsModifiedUtf8-ascii (c ∷ cs) h =
    let p = and_parts (is_inner_ascii c) (list_all is_inner_ascii cs) h in
    let here = and_parts (nat_lt 0 c) (nat_lt c 128) p.0 in
    let rest = IsModifiedUtf8-ascii cs p.1 in
    let small : c < 2 ^ 16 = omega (arith, ltb-true c 128 here.1) in
    (c ∷ rest.0, (small, rest.1), rw (modified_utf8-ascii c p.0) (ap (λ (t : List ℕ). c ∷ t) rest.2))

-- ---- mangled names

-- what a byte is mangled to is short and ASCII
abbrev mangles_well : ℕ → Bool
mangles_well b = list_all is_inner_ascii (mangle_byte b) && nat_le (length (mangle_byte b)) 3

mangle_byte-well : (b : ℕ) → b < 256 → mangles_well b ≡ true
mangle_byte-well b lt = agree_below_at mangles_well (λ n. true) 256 b refl lt

pub list_all-append : (p : ℕ → Bool) (xs ys : List ℕ) → list_all p xs ≡ true → list_all p ys ≡ true → list_all p (xs ++ ys) ≡ true
list_all-append p [] ys f g = g
list_all-append p (x ∷ xs) ys f g = let a = and_parts (p x) (list_all p xs) f in and_from _ _ a.0 (list_all-append p xs ys a.1 g)

pub record IsShortAscii (n : ℕ) (bytes : List ℕ) : Type 0 where
  pub ascii : list_all is_inner_ascii bytes ≡ true
  pub short : length bytes ≤ n

pub mangled : (bytes : List ℕ) → list_all (λ b. nat_lt b 256) bytes ≡ true → IsShortAscii (3 * length bytes) (flat_map mangle_byte bytes)
mangled [] h = record { ascii = refl; short = omega arith }
mangled (b ∷ bytes) h =
    let p = and_parts (nat_lt b 256) (list_all (λ b. nat_lt b 256) bytes) h in
    let here = and_parts (list_all is_inner_ascii (mangle_byte b)) (nat_le (length (mangle_byte b)) 3) (mangle_byte-well b (ltb-true b 256 p.0)) in
    let rest = mangled bytes p.1 in
    record {
      ascii = list_all-append is_inner_ascii (mangle_byte b) (flat_map mangle_byte bytes) here.0 rest.ascii;
      short = omega (arith, leb-true (length (mangle_byte b)) 3 here.1, rest.short, length-append (mangle_byte b) (flat_map mangle_byte bytes));
    }

-- ---- names

-- an atom's name
pub record IsNameText (name : List ℕ) : Type 0 where
  pub scalars : all_scalars name ≡ true
  pub short : length name ≤ 255

pub name_text : (name : List ℕ) → is_atom_name name ≡ true → IsNameText name
name_text name h =
    let p = and_parts (all_scalars name) (nat_le (length name) 255) h in
    record { scalars = p.0; short = leb-true (length name) 255 p.1 }

abbrev is_byte : ℕ → Bool
is_byte b = nat_lt b 256

small : (b : ℕ) → b < 256 → is_byte b ≡ true
small b lt = lt-ltb b 256 lt

next-small : (n : ℕ) → is_byte (next n) ≡ true
next-small n = let below : n % 64 < 64 = mod-lt n (omega arith) in small (next n) (omega (arith, below))

-- a character's UTF-8 is of bytes
character_bytes : (c : ℕ) → c < 1114112 → list_all is_byte (encode c) ≡ true
unfolding encode
character_bytes c lt = by (nat_lt c 128) (nat_lt c 2048) (nat_lt c 65536) refl refl refl
  where
    by : (x y z : Bool) → nat_lt c 128 ≡ x → nat_lt c 2048 ≡ y → nat_lt c 65536 ≡ z
        → list_all is_byte (cond x (c ∷ []) (cond y ((192 + c / 64) ∷ next c ∷ []) (cond z ((224 + c / 4096) ∷ next (c / 64) ∷ next c ∷ []) ((240 + c / 262144) ∷ next (c / 4096) ∷ next (c / 64) ∷ next c ∷ [])))) ≡ true
    by true y z e f g = and_from _ _ (small c (omega (arith, ltb-true c 128 e))) refl
    by false true z e f g = and_from _ _ (small (192 + c / 64) (omega (arith, ltb-true c 2048 f))) (and_from _ _ (next-small c) refl)
    by false false true e f g = and_from _ _ (small (224 + c / 4096) (omega (arith, ltb-true c 65536 g))) (and_from _ _ (next-small (c / 64)) (and_from _ _ (next-small c) refl))
    by false false false e f g =
        and_from _ _ (small (240 + c / 262144) (omega (arith, lt)))
        (and_from _ _ (next-small (c / 4096)) (and_from _ _ (next-small (c / 64)) (and_from _ _ (next-small c) refl)))

scalar-lt : (c : ℕ) → scalar c ≡ true → c < 1114112
scalar-lt c h = elim (scalar_cases c h) [
  | inl low ↦ omega (arith, low)
  | inr high ↦ high.1
]

name_bytes : (cs : List ℕ) → all_scalars cs ≡ true → list_all is_byte (encode_utf8_all cs) ≡ true
name_bytes [] h = refl
name_bytes (c ∷ cs) h =
    let p = and_parts (scalar c) (all_scalars cs) h in
    list_all-append is_byte (encode c) (encode_utf8_all cs) (character_bytes c (scalar-lt c p.0)) (name_bytes cs p.1)

encoded_length : (cs : List ℕ) → length (encode_utf8_all cs) ≤ 4 * length cs
encoded_length [] = omega arith
encoded_length (c ∷ cs) = omega (arith, length-append (encode c) (encode_utf8_all cs), length-encode c, (len_utf8_bounds c).1, encoded_length cs)

pub mangled_name : (name : List ℕ) → IsNameText name → IsShortAscii 3060 (mangle name)
mangled_name name t =
    let m = mangled (encode_utf8_all name) (name_bytes name t.scalars) in
    record { ascii = m.ascii; short = omega (arith, m.short, encoded_length name, t.short) }

pub joined : (m n : ℕ) (xs ys : List ℕ) → IsShortAscii m xs → IsShortAscii n ys → IsShortAscii (m + n) (xs ++ ys)
joined m n xs ys f g = record { ascii = list_all-append is_inner_ascii xs ys f.ascii g.ascii; short = omega (arith, f.short, g.short, length-append xs ys) }

pub arity_text : (n : ℕ) → n < 256 → IsShortAscii 3 (decimal n)
unfolding digits
arity_text n lt =
    let p = and_parts (list_all is_inner_ascii (decimal n)) (nat_le (length (decimal n)) 3) (agree_below_at (λ k. list_all is_inner_ascii (decimal k) && nat_le (length (decimal k)) 3) (λ k. true) 256 n refl lt) in
    record { ascii = p.0; short = leb-true (length (decimal n)) 3 p.1 }

pub class_name_text : (name : List ℕ) → IsNameText name → IsShortAscii 3066 (class_name name)
class_name_text name t = joined 6 3060 (codes "erl/m/") (mangle name) (record { ascii = refl; short = lit≤ tt }) (mangled_name name t)

pub method_name_text : (name : List ℕ) (arity : ℕ) → IsNameText name → arity < 256 → IsShortAscii 3065 (method_name name arity)
method_name_text name arity t lt =
    joined 3062 3 (mangle name ++ codes "__") (decimal arity) (joined 3060 2 (mangle name) (codes "__") (mangled_name name t) (record { ascii = refl; short = lit≤ tt })) (arity_text arity lt)

-- ---- entries of the pool

pub utf8_entry : (pool : List Constant) (n : ℕ) (bytes : List ℕ) → n < 2 ^ 16 → IsShortAscii n bytes → IsEntry pool (Utf8 bytes)
utf8_entry pool n bytes lt t = let short : length bytes < 2 ^ 16 = omega (arith, t.short) in (short, IsModifiedUtf8-ascii bytes t.ascii)

-- an entry of a text that is written out
pub spelled_entry : (pool : List Constant) (bytes : List ℕ) → list_all is_inner_ascii bytes ≡ true → length bytes < 2 ^ 16 → IsEntry pool (Utf8 bytes)
spelled_entry pool bytes ascii lt = (lt, IsModifiedUtf8-ascii bytes ascii)
