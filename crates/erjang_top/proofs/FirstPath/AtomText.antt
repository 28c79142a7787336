-- The print of an atom is short and ASCII, and so modified UTF-8.
use Rattle.std.proofs.Common.{◌≡◌, ℕ, zero, suc, ◌+◌, ◌*◌, ◌/◌, ◌%◌, ◌==◌, ◌<◌, ◌≤◌, ◌^◌, Bool, true, false, not, ◌||◌, lit≤, lit<, nat_eq, nat_lt, if◌then◌else◌, List, [], ◌∷◌, ◌++◌, length, codes, refl, ap, arith}
use Rattle.std.specs.List.{flat_map, list_all}
use Rattle.std.specs.Fmt.{digits, digits_onto, digit_glyph}
use Rattle.std.proofs.Math.Nat.{mod-lt}
use Rattle.std.proofs.lemmas.Bool.{and_parts, and_from, agree_below_at}
use Rattle.std.proofs.lemmas.Bool.Decides.{nat_tests}
use Rattle.ej_term.specs.Atoms.{is_lower, is_name_character, is_name, is_reserved, is_plain}
use Rattle.ej_term.specs.TermPrint.{quoted_character, print_atom}
use Rattle.asm_terms.proofs.Shorter.{either}
use Rattle.erjang_top.specs.first_path.Accepted.{is_atom_name}
use Rattle.erjang_top.specs.first_path.ClassFile.{Constant, Utf8}
use Rattle.erjang_top.specs.first_path.ClassProfile.{IsEntry}
use Rattle.erjang_top.proofs.FirstPath.NameText.{is_inner_ascii, IsShortAscii, IsNameText, name_text, joined, utf8_entry}

pub wider : (m n : ℕ) (xs : List ℕ) → m ≤ n → IsShortAscii m xs → IsShortAscii n xs
wider m n xs le t = record { ascii = t.ascii; short = omega (arith, le, t.short) }

one-more : (n c : ℕ) (xs : List ℕ) → is_inner_ascii c ≡ true → IsShortAscii n xs → IsShortAscii (n + 1) (c ∷ xs)
one-more n c xs h t = record { ascii = and_from _ _ h t.ascii; short = omega (arith, t.short) }

-- ---- hexadecimal digits

glyph : (d : ℕ) → d < 16 → is_inner_ascii (digit_glyph true d) ≡ true
glyph d lt = agree_below_at (λ n. is_inner_ascii (digit_glyph true n)) (λ n. true) 16 d refl lt

onto : (k j n : ℕ) (behind : List ℕ) → IsShortAscii j behind → IsShortAscii (k + j) (digits_onto k 16 true n behind)
onto zero j n behind h = wider j (zero + j) behind (omega arith) h
onto (suc k) j n behind h =
    let more = one-more j (digit_glyph true (n % 16)) behind (glyph (n % 16) (mod-lt n (omega arith))) h in
    let whole : List ℕ = digits_onto k 16 true (n / 16) (digit_glyph true (n % 16) ∷ behind) in
    let rest = onto k (j + 1) (n / 16) (digit_glyph true (n % 16) ∷ behind) more in
    either (IsShortAscii (suc k + j)) (n / 16 == 0)
    (wider (j + 1) (suc k + j) (digit_glyph true (n % 16) ∷ behind) (omega arith) more) (wider (k + (j + 1)) (suc k + j) whole (omega arith) rest)

hexadecimal : (n : ℕ) → IsShortAscii 64 (digits 16 true n)
unfolding digits
hexadecimal n = onto 64 0 n [] (record { ascii = refl; short = omega arith })

-- ---- characters between quotes

backslash-inner : (c : ℕ) → (nat_eq c 39 || nat_eq c 92) ≡ true → is_inner_ascii c ≡ true
backslash-inner c h = grind (arith, nat_tests)

between-inner : (c : ℕ) → (nat_lt c 32 || nat_lt 126 c) ≡ false → is_inner_ascii c ≡ true
between-inner c h = grind (arith, nat_tests)

character : (c : ℕ) → IsShortAscii 68 (quoted_character c)
character c = by (nat_eq c 39 || nat_eq c 92) (nat_lt c 32 || nat_lt 126 c) refl refl
  where
    by : (a b : Bool) → (nat_eq c 39 || nat_eq c 92) ≡ a → (nat_lt c 32 || nat_lt 126 c) ≡ b
        → IsShortAscii 68 (if a then 92 ∷ c ∷ [] else if b then codes "\\x{" ++ digits 16 true c ++ codes "}" else c ∷ [])
    by true b e f = record { ascii = and_from _ _ (backslash-inner c e) refl; short = lit≤ tt }
    by false true e f =
        joined 67 1 (codes "\\x{" ++ digits 16 true c) (codes "}") (joined 3 64 (codes "\\x{") (digits 16 true c) (record { ascii = refl; short = lit≤ tt }) (hexadecimal c))
        (record { ascii = refl; short = lit≤ tt })
    by false false e f = record { ascii = and_from _ _ (between-inner c f) refl; short = lit≤ tt }

characters : (cs : List ℕ) → IsShortAscii (68 * length cs) (flat_map quoted_character cs)
characters [] = record { ascii = refl; short = omega arith }
characters (c ∷ cs) =
    let whole = joined 68 (68 * length cs) (quoted_character c) (flat_map quoted_character cs) (character c) (characters cs) in
    record { ascii = whole.ascii; short = omega (arith, whole.short) }

-- ---- the print

name-inner : (c : ℕ) → is_name_character c ≡ true → is_inner_ascii c ≡ true
name-inner c h = grind (arith, nat_tests)

lower-inner : (c : ℕ) → is_lower c ≡ true → is_inner_ascii c ≡ true
lower-inner c h = grind (arith, nat_tests)

names-inner : (cs : List ℕ) → list_all is_name_character cs ≡ true → list_all is_inner_ascii cs ≡ true
names-inner [] h = refl
names-inner (c ∷ cs) h = let p = and_parts (is_name_character c) (list_all is_name_character cs) h in and_from _ _ (name-inner c p.0) (names-inner cs p.1)

plain-inner : (cs : List ℕ) → is_plain cs ≡ true → list_all is_inner_ascii cs ≡ true
plain-inner [] h = absurd cc
plain-inner (c ∷ cs) h =
    let name = (and_parts (is_name (c ∷ cs)) (not (is_reserved (c ∷ cs))) h).0 in
    let p = and_parts (is_lower c) (list_all is_name_character cs) name in
    and_from _ _ (lower-inner c p.0) (names-inner cs p.1)

pub print_text : (name : List ℕ) → IsNameText name → IsShortAscii 17342 (print_atom name)
print_text name t = by (is_plain name) refl
  where
    by : (b : Bool) → is_plain name ≡ b → IsShortAscii 17342 (if b then name else 39 ∷ (flat_map quoted_character name ++ 39 ∷ []))
    by true e = record { ascii = plain-inner name e; short = omega (arith, t.short) }
    by false e =
        let cs = characters name in
        let last = joined (68 * length name) 1 (flat_map quoted_character name) (39 ∷ []) cs (record { ascii = refl; short = lit≤ tt }) in
        record { ascii = last.ascii; short = omega (arith, last.short, t.short) }

-- an entry of an atom's print
pub atom_entry : (pool : List Constant) (name : List ℕ) → is_atom_name name ≡ true → IsEntry pool (Utf8 (print_atom name))
atom_entry pool name h = utf8_entry pool 17342 (print_atom name) (lit< tt) (print_text name (name_text name h))

pub print_short : (name bytes : List ℕ) → is_atom_name name ≡ true → bytes ≡ print_atom name → length bytes < 2 ^ 16
print_short name bytes h e = omega (arith, (print_text name (name_text name h)).short, ap length e)
