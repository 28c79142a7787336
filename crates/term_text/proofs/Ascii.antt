-- A print is ASCII, so its characters are its bytes.
use Rattle.std.proofs.Common.{◌≡◌, ℕ, zero, suc, ◌<◌, ◌≤◌, ◌/◌, ◌%◌, ◌==◌, ℤ, pos, negsuc, Bool, true, false, not, ◌&&◌, ◌||◌, nat_eq, nat_lt, if◌then◌else◌, List, [], ◌∷◌, ◌++◌, codes, refl, subst, ◌∙◌, IsAscii, arith}
use Rattle.std.specs.List.{flat_map, list_all}
use Rattle.std.specs.Str.{all_scalars}
use Rattle.std.specs.Fmt.{digits, digits_onto, digit_glyph, decimal, signed_decimal}
use Rattle.std.proofs.Math.Nat.{mod-lt}
use Rattle.std.proofs.lemmas.Bool.{and_parts, ltb-true}
use Rattle.std.proofs.lemmas.Bool.Decides.{nat_tests}
use Rattle.std.proofs.lemmas.Str.{IsAscii-append, IsUtf8-from_ascii, chars-IsAscii, scalars-chars}
use Rattle.std.proofs.lemmas.Str.Ascii.{IsAscii-nil, IsAscii-cons}
use Rattle.ej_term.specs.Atoms.{is_plain, is_name, is_lower, is_name_character, is_reserved}
use Rattle.ej_term.specs.Term.{Term, Int, Atom, Reference, Fun, Pid, Tuple, Map, Nil, Cons, Terms, None, More, Pairs, Empty, Pair}
use Rattle.ej_term.specs.TermPrint.{print_atom, quoted_character, print_numbers, print_function, print, print_parts, print_rest, print_pairs, print_more_pairs, print_tail}
use Rattle.asm_terms.specs.Characters.{characters}
use Rattle.asm_terms.proofs.Shorter.{either}
use Rattle.asm_terms.proofs.CharactersLemmas.{characters-utf8}

pub ascii-characters : (bytes : List ℕ) → IsAscii bytes → characters bytes ≡ bytes
ascii-characters bytes h = characters-utf8 bytes (IsUtf8-from_ascii bytes h) ∙ chars-IsAscii bytes h

pub ascii-around : (first last : ℕ) (bytes : List ℕ) → first < 128 → last < 128 → IsAscii bytes → IsAscii (first ∷ (bytes ++ last ∷ []))
ascii-around first last bytes f l h = IsAscii-cons first (bytes ++ last ∷ []) f (IsAscii-append bytes (last ∷ []) h (IsAscii-cons last [] l IsAscii-nil))

name-character : (c : ℕ) → is_name_character c ≡ true → c < 128
name-character c h = grind (arith, nat_tests)

lower : (c : ℕ) → is_lower c ≡ true → c < 128
lower c h = grind (arith, nat_tests)

name-characters : (cs : List ℕ) → list_all is_name_character cs ≡ true → IsAscii cs
name-characters [] h = IsAscii-nil
name-characters (c ∷ cs) h =
    let parts = and_parts (is_name_character c) (list_all is_name_character cs) h in
    IsAscii-cons c cs (name-character c parts.0) (name-characters cs parts.1)

pub plain-ascii : (name : List ℕ) → is_plain name ≡ true → IsAscii name
plain-ascii [] h = IsAscii-nil
plain-ascii (c ∷ cs) h =
    let parts = and_parts (is_lower c) (list_all is_name_character cs) (and_parts (is_name (c ∷ cs)) (not (is_reserved (c ∷ cs))) h).0 in
    IsAscii-cons c cs (lower c parts.0) (name-characters cs parts.1)

between : (c : ℕ) → (nat_lt c 32 || nat_lt 126 c) ≡ false → c < 128
between c h = grind (arith, nat_tests)

quote-or-backslash : (c : ℕ) → (nat_eq c 39 || nat_eq c 92) ≡ true → c < 128
quote-or-backslash c h = grind (arith, nat_tests)

glyph-ascii : (upper : Bool) (d : ℕ) → d < 36 → digit_glyph upper d < 128
glyph-ascii true d h = grind (arith, nat_tests)
glyph-ascii false d h = grind (arith, nat_tests)

onto-ascii : (k base n : ℕ) (upper : Bool) (behind : List ℕ) → 0 < base → base ≤ 36 → IsAscii behind → IsAscii (digits_onto k base upper n behind)
onto-ascii zero base n upper behind low high h = h
onto-ascii (suc k) base n upper behind low high h =
    let more : IsAscii (digit_glyph upper (n % base) ∷ behind) = IsAscii-cons (digit_glyph upper (n % base)) behind (glyph-ascii upper (n % base) (omega (arith, mod-lt n low, high))) h in
    either IsAscii (n / base == 0) more (onto-ascii k base (n / base) upper (digit_glyph upper (n % base) ∷ behind) low high more)

pub digits-ascii : (base n : ℕ) (upper : Bool) → 0 < base → base ≤ 36 → IsAscii (digits base upper n)
unfolding digits
digits-ascii base n upper low high = onto-ascii 64 base n upper [] low high IsAscii-nil

escape : (cs : List ℕ) → IsAscii (123 ∷ cs) → IsAscii (92 ∷ 120 ∷ 123 ∷ cs)
escape cs h = IsAscii-cons 92 (120 ∷ 123 ∷ cs) (omega arith) (IsAscii-cons 120 (123 ∷ cs) (omega arith) h)

character-ascii : (c : ℕ) → IsAscii (quoted_character c)
character-ascii c = by (nat_eq c 39 || nat_eq c 92) (nat_lt c 32 || nat_lt 126 c) refl refl
  where
    by : (a b : Bool) → (nat_eq c 39 || nat_eq c 92) ≡ a → (nat_lt c 32 || nat_lt 126 c) ≡ b
        → IsAscii (if a then 92 ∷ c ∷ [] else if b then codes "\\x{" ++ digits 16 true c ++ codes "}" else c ∷ [])
    by true b e f = IsAscii-cons 92 (c ∷ []) (omega arith) (IsAscii-cons c [] (quote-or-backslash c e) IsAscii-nil)
    by false true e f = escape (digits 16 true c ++ codes "}")
        (ascii-around 123 125 (digits 16 true c) (omega arith) (omega arith) (digits-ascii 16 c true (omega arith) (omega arith)))
    by false false e f = IsAscii-cons c [] (between c f) IsAscii-nil

quoted-ascii : (name : List ℕ) → IsAscii (flat_map quoted_character name)
quoted-ascii [] = IsAscii-nil
quoted-ascii (c ∷ cs) = IsAscii-append (quoted_character c) (flat_map quoted_character cs) (character-ascii c) (quoted-ascii cs)

atom-ascii : (name : List ℕ) → IsAscii (print_atom name)
atom-ascii name = by (is_plain name) refl
  where
    by : (b : Bool) → is_plain name ≡ b → IsAscii (if b then name else 39 ∷ (flat_map quoted_character name ++ 39 ∷ []))
    by true e = plain-ascii name e
    by false e = ascii-around 39 39 (flat_map quoted_character name) (omega arith) (omega arith) (quoted-ascii name)

-- a text of ASCII characters
record Plain (text : List ℕ) : Type 0 where
  ascii : IsAscii text

both : {xs ys : List ℕ} → Plain xs → Plain ys → Plain (xs ++ ys)
both {xs} {ys} p q = record { ascii = IsAscii-append xs ys p.ascii q.ascii }

-- characters that are written out
abbrev are_ascii : List ℕ → Bool
are_ascii [] = true
are_ascii (c ∷ cs) = nat_lt c 128 && are_ascii cs

written-ascii : (cs : List ℕ) → are_ascii cs ≡ true → IsAscii cs
written-ascii [] h = IsAscii-nil
written-ascii (c ∷ cs) h =
    let parts = and_parts (nat_lt c 128) (are_ascii cs) h in
    IsAscii-cons c cs (ltb-true c 128 parts.0) (written-ascii cs parts.1)

written : (cs : List ℕ) → are_ascii cs ≡ true → Plain cs
written cs h = record { ascii = written-ascii cs h }

name-plain : (name : List ℕ) → Plain (print_atom name)
name-plain name = record { ascii = atom-ascii name }

decimal-plain : (n : ℕ) → Plain (decimal n)
decimal-plain n = record { ascii = digits-ascii 10 n false (omega arith) (omega arith) }

signed-plain : (n : ℤ) → Plain (signed_decimal n)
signed-plain (pos n) = decimal-plain n
signed-plain (negsuc n) = both (written (codes "-") refl) (decimal-plain (suc n))

numbers-plain : (node number : ℕ) → Plain (print_numbers node number)
numbers-plain node number = both (both (both (both (written (codes "<") refl) (decimal-plain node)) (written (codes ".") refl)) (decimal-plain number)) (written (codes ">") refl)

function-plain : (owner name : List ℕ) (arity : ℕ) → Plain (print_function owner name arity)
function-plain owner name arity =
    both (both (both (both (both (written (codes "fun ") refl) (name-plain owner)) (written (codes ":") refl)) (name-plain name)) (written (codes "/") refl)) (decimal-plain arity)

local-plain : (front owner name environment : List ℕ) (arity : ℕ) → Plain front → Plain environment
    → Plain (front ++ print_atom owner ++ codes "," ++ print_atom name ++ codes "," ++ decimal arity ++ codes ",[" ++ environment ++ codes "]>")
local-plain front owner name environment arity f e =
    both (both (both (both (both (both (both (both f (name-plain owner)) (written (codes ",") refl)) (name-plain name)) (written (codes ",") refl)) (decimal-plain arity)) (written (codes ",[") refl)) e) (written (codes "]>") refl)

mutual
  -- a print has no other characters
  print-plain : (t : Term) → Plain (print t)
  print-plain (Int n) = signed-plain n
  print-plain (Atom name) = name-plain name
  print-plain (Reference node number) = both (written (codes "#Ref") refl) (numbers-plain node number)
  print-plain (Fun true owner name arity environment) = local-plain (codes "#Fun<") owner name (print_parts environment) arity (written (codes "#Fun<") refl) (parts-plain environment)
  print-plain (Fun false owner name arity environment) = function-plain owner name arity
  print-plain (Pid node number) = both (written (codes "#Pid") refl) (numbers-plain node number)
  print-plain (Tuple parts) = both (both (written (codes "{") refl) (parts-plain parts)) (written (codes "}") refl)
  print-plain (Map pairs) = both (both (written (codes "#{") refl) (pairs-plain pairs)) (written (codes "}") refl)
  print-plain Nil = written (codes "[]") refl
  print-plain (Cons head tail) = both (both (both (written (codes "[") refl) (print-plain head)) (tail-plain tail)) (written (codes "]") refl)

  parts-plain : (parts : Terms) → Plain (print_parts parts)
  parts-plain None = written [] refl
  parts-plain (More first rest) = both (print-plain first) (rest-plain rest)

  rest-plain : (parts : Terms) → Plain (print_rest parts)
  rest-plain None = written [] refl
  rest-plain (More first rest) = both (both (written (codes ",") refl) (print-plain first)) (rest-plain rest)

  pairs-plain : (pairs : Pairs) → Plain (print_pairs pairs)
  pairs-plain Empty = written [] refl
  pairs-plain (Pair key value rest) = both (both (both (print-plain key) (written (codes "=>") refl)) (print-plain value)) (more-plain rest)

  more-plain : (pairs : Pairs) → Plain (print_more_pairs pairs)
  more-plain Empty = written [] refl
  more-plain (Pair key value rest) = both (both (both (both (written (codes ",") refl) (print-plain key)) (written (codes "=>") refl)) (print-plain value)) (more-plain rest)

  tail-plain : (t : Term) → Plain (print_tail t)
  tail-plain Nil = written [] refl
  tail-plain (Cons head tail) = both (both (written (codes ",") refl) (print-plain head)) (tail-plain tail)
  tail-plain (Int n) = both (written (codes "|") refl) (signed-plain n)
  tail-plain (Atom name) = both (written (codes "|") refl) (name-plain name)
  tail-plain (Reference node number) = both (written (codes "|#Ref") refl) (numbers-plain node number)
  tail-plain (Fun true owner name arity environment) = local-plain (codes "|#Fun<") owner name (print_parts environment) arity (written (codes "|#Fun<") refl) (parts-plain environment)
  tail-plain (Fun false owner name arity environment) = both (written (codes "|") refl) (function-plain owner name arity)
  tail-plain (Pid node number) = both (written (codes "|#Pid") refl) (numbers-plain node number)
  tail-plain (Tuple parts) = both (both (written (codes "|{") refl) (parts-plain parts)) (written (codes "}") refl)
  tail-plain (Map pairs) = both (both (written (codes "|#{") refl) (pairs-plain pairs)) (written (codes "}") refl)

pub print-ascii : (t : Term) → IsAscii (print t)
print-ascii t = let p = print-plain t in p.ascii

-- the characters of a print and a full stop
pub print-characters : (t : Term) → characters (print t ++ codes ".\n") ≡ print t ++ codes ".\n"
print-characters t = let p = both (print-plain t) (written (codes ".\n") refl) in ascii-characters (print t ++ codes ".\n") p.ascii

-- and they are Unicode scalar values
pub print-scalars : (t : Term) → all_scalars (print t ++ codes ".\n") ≡ true
print-scalars t =
    let p = both (print-plain t) (written (codes ".\n") refl) in
    subst (λ cs. all_scalars cs ≡ true) (chars-IsAscii (print t ++ codes ".\n") p.ascii) (scalars-chars (print t ++ codes ".\n") (IsUtf8-from_ascii (print t ++ codes ".\n") p.ascii))
