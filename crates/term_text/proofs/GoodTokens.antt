-- Each token of a text of Unicode scalar values is in range: what is read of it, and the text behind it.
use Rattle.std.proofs.Common.{◌≡◌, ℕ, zero, suc, ◌<◌, ◌^◌, ◌-◌, ◌+◌, ◌*◌, Bool, true, false, ◌&&◌, nat_eq, nat_le, List, [], ◌∷◌, ◌++◌, length, drop, codes, if◌then◌else◌, Option, Some, None, IfSome, option_map, option_and_then, refl, subst, not, arith}
use Rattle.std.specs.Bool.{⊤}
use Rattle.std.specs.Char.{digit_value}
use Rattle.std.specs.Str.{bytes_eq, all_scalars}
use Rattle.std.specs.Str.Parse.{digits_value, signed_digits_value}
use Rattle.std.proofs.lemmas.Bool.{and_parts, and_from, ltb-true}
use Rattle.std.proofs.lemmas.Bool.Decides.{nat_tests}
use Rattle.std.proofs.Math.Utf8.{scalar, low_scalar}
use Rattle.asm_terms.specs.declared.token.Token.{Token}
use Rattle.asm_terms.specs.declared.token.Token.TheVariants as token
use Rattle.asm_terms.specs.Runs.{run, behind, after}
use Rattle.ej_term.specs.Term.{has_64_bits}
use Rattle.asm_terms.specs.Numbers.{is_digit, integer, begins_number, begins_fraction, is_exponent_mark, is_sign, exponent, signed_exponent, exponent_digits, with_exponent, float, with_fraction, whole_or_float, number}
use Rattle.asm_terms.specs.Names.{begins_name, is_name_character, name, word, atom}
use Rattle.asm_terms.specs.Quotes.{is_scalar, control, octal, braced, second_digit, hexadecimal, escaped, quoted_from, quoted, behind_character, quoted_character}
use Rattle.asm_terms.specs.Binaries.{binary_from, binary, ends_binary, place_behind}
use Rattle.asm_terms.specs.Identifiers.{bounded, number_up_to, with_word, node, last_number, with_number, pid_or_reference, map_or_identifier, behind_hash}
use Rattle.asm_terms.specs.Tokens.{negative, atom_of, quoted_atom, string_of, string, binary_behind, mark, token_at, joined_string, joined as joined_tokens, with_token, skip_blank, is_full_stop, behind_token, tokens_from}
use Rattle.asm_terms.specs.Blanks.{skip, is_blank}
use Rattle.asm_terms.specs.Splitting.{HasTokens}
use Rattle.asm_terms.proofs.Shorter.{either}
use Rattle.asm_terms.proofs.SplitLaw.{walked}
use Rattle.ej_term.specs.Readable.{is_short}

-- a text of Unicode scalar values
abbrev pub AreScalars : List ℕ → Type 0
AreScalars cs = all_scalars cs ≡ true

abbrev pub IsGood : Token → Type 0
IsGood (token.Int n) = has_64_bits n ≡ true
IsGood (token.Atom name) = AreScalars name × (is_short name ≡ true)
IsGood (token.Str characters) = AreScalars characters
IsGood (token.Pid node number) = (nat_le node (2 ^ 32 - 1) ≡ true) × (nat_le number (2 ^ 62) ≡ true)
IsGood (token.Ref node number) = (nat_le node (2 ^ 32 - 1) ≡ true) × (nat_le number (2 ^ 62) ≡ true)
IsGood _ = ⊤

-- what was read has a property, and a text of scalar values is left
abbrev pub Leaves : {A : Type 0} → (A → Type 0) → Option (A × List ℕ) → Type 0
Leaves P o = IfSome o (λ r. P r.0 × AreScalars r.1)

either_by : {A : Type 0} (P : A → Type 0) (b : Bool) {x y : A} → (b ≡ true → P x) → P y → P (if b then x else y)
either_by P true h k = h refl
either_by P false h k = k

front : (c : ℕ) (cs : List ℕ) → AreScalars (c ∷ cs) → scalar c ≡ true
front c cs s = (and_parts (scalar c) (all_scalars cs) s).0

back : (c : ℕ) (cs : List ℕ) → AreScalars (c ∷ cs) → AreScalars cs
back c cs s = (and_parts (scalar c) (all_scalars cs) s).1

more : (c : ℕ) (cs : List ℕ) → scalar c ≡ true → AreScalars cs → AreScalars (c ∷ cs)
more c cs e s = and_from (scalar c) (all_scalars cs) e s

joined : (xs ys : List ℕ) → AreScalars xs → AreScalars ys → AreScalars (xs ++ ys)
joined [] ys s t = t
joined (x ∷ xs) ys s t = more x (xs ++ ys) (front x xs s) (joined xs ys (back x xs s) t)

run-scalars : (p : ℕ → Bool) (cs : List ℕ) → AreScalars cs → AreScalars (run p cs)
run-scalars p [] s = refl
run-scalars p (c ∷ cs) s = either AreScalars (p c) (more c (run p cs) (front c cs s) (run-scalars p cs (back c cs s))) refl

behind-scalars : (p : ℕ → Bool) (cs : List ℕ) → AreScalars cs → AreScalars (behind p cs)
behind-scalars p [] s = refl
behind-scalars p (c ∷ cs) s = either AreScalars (p c) (behind-scalars p cs (back c cs s)) s

drop-scalars : (cs : List ℕ) → AreScalars cs → AreScalars (drop 1 cs)
drop-scalars [] s = refl
drop-scalars (c ∷ cs) s = back c cs s

after-scalars : (word cs : List ℕ) → AreScalars cs → IfSome (after word cs) AreScalars
after-scalars [] cs s = s
after-scalars (w ∷ word) [] s = tt
after-scalars (w ∷ word) (c ∷ cs) s = either (λ o. IfSome o AreScalars) (nat_eq w c) (after-scalars word cs (back c cs s)) tt

then-leaves : {A B : Type 0} (P : A → Type 0) (Q : B → Type 0) (f : A × List ℕ → Option (B × List ℕ)) (o : Option (A × List ℕ)) → Leaves P o
    → ((r : A × List ℕ) → P r.0 → AreScalars r.1 → Leaves Q (f r)) → Leaves Q (option_and_then f o)
then-leaves P Q f None h k = tt
then-leaves P Q f (Some r) h k = k r h.0 h.1

after-leaves : {B : Type 0} (Q : B → Type 0) (f : List ℕ → Option (B × List ℕ)) (o : Option (List ℕ)) → IfSome o AreScalars
    → ((rest : List ℕ) → AreScalars rest → Leaves Q (f rest)) → Leaves Q (option_and_then f o)
after-leaves Q f None h k = tt
after-leaves Q f (Some rest) h k = k rest h

-- ---- numbers

abbrev Anything : List ℕ → Type 0
Anything cs = ⊤

digits-leave : (before cs : List ℕ) → AreScalars cs → Leaves Anything (exponent_digits before cs)
digits-leave before cs s = either (Leaves Anything) (begins_number cs) (tt, behind-scalars (is_digit 10) cs s) tt

signed-leaves : (sign : ℕ) (cs : List ℕ) → AreScalars cs → Leaves Anything (signed_exponent sign cs)
signed-leaves sign [] s = tt
signed-leaves sign (c ∷ cs) s = either (Leaves Anything) (is_sign c) (digits-leave (sign ∷ c ∷ []) cs (back c cs s)) (digits-leave (sign ∷ []) (c ∷ cs) s)

exponent-leaves : (cs : List ℕ) → AreScalars cs → Leaves Anything (exponent cs)
exponent-leaves [] s = tt
exponent-leaves (c ∷ cs) s = either (Leaves Anything) (is_exponent_mark c) (signed-leaves c cs (back c cs s)) tt

-- a token that was read, and the text behind it
abbrev Good : Token × List ℕ → Type 0
Good r = IsGood r.0 × AreScalars r.1

with_exponent-good : (spelled rest : List ℕ) (o : Option (List ℕ × List ℕ)) → AreScalars rest → Leaves Anything o → Good (float (with_exponent spelled o rest))
with_exponent-good spelled rest None s h = (tt, s)
with_exponent-good spelled rest (Some r) s h = (tt, h.1)

fraction-good : (spelled cs : List ℕ) → AreScalars cs → Good (with_fraction spelled cs)
fraction-good spelled cs s =
    let rest = behind-scalars (is_digit 10) cs s in
    with_exponent-good (spelled ++ run (is_digit 10) cs) (behind (is_digit 10) cs) (exponent (behind (is_digit 10) cs)) rest (exponent-leaves (behind (is_digit 10) cs) rest)

integer-good : (spelled : List ℕ) → IsGood (integer spelled)
integer-good spelled = either_by IsGood (has_64_bits (signed_digits_value 10 spelled)) (λ e. e) tt

whole-good : (spelled rest : List ℕ) → AreScalars rest → Good (whole_or_float spelled rest)
whole-good spelled rest s = either Good (begins_fraction rest) (fraction-good (spelled ++ 46 ∷ []) (drop 1 rest) (drop-scalars rest s)) (integer-good spelled, s)

number-good : (minus cs : List ℕ) → AreScalars cs → Good (number minus cs)
number-good minus cs s = whole-good (minus ++ run (is_digit 10) cs) (behind (is_digit 10) cs) (behind-scalars (is_digit 10) cs s)

negative-good : (cs : List ℕ) → AreScalars cs → Leaves IsGood (negative cs)
negative-good cs s = either (Leaves IsGood) (begins_number cs) (number-good (codes "-") cs s) tt

-- ---- atoms

atom-good : (characters rest : List ℕ) → AreScalars characters → AreScalars rest → Leaves IsGood (atom characters rest)
atom-good characters rest c s = either_by (Leaves IsGood) (nat_le (length characters) 255) (λ e. ((c, e), s)) tt

name-good : (cs : List ℕ) → AreScalars cs → Leaves IsGood (name cs)
name-good cs s =
    let rest = behind-scalars is_name_character cs s in
    either (Leaves IsGood) (bytes_eq (run is_name_character cs) (codes "fun")) (tt, rest) (atom-good (run is_name_character cs) (behind is_name_character cs) (run-scalars is_name_character cs s) rest)

-- ---- quotes

abbrev IsScalar : ℕ → Type 0
IsScalar c = scalar c ≡ true

read-scalar : (c : ℕ) → is_scalar c ≡ true → IsScalar c
read-scalar c h = grind (arith, nat_tests)

octal-one : (n : ℕ) (cs : List ℕ) → n < 64 → AreScalars cs → ((octal 1 n cs).0 < 512) × AreScalars (octal 1 n cs).1
octal-one n [] h s = (omega (arith, h), refl)
octal-one n (c ∷ cs) h s =
    either_by (λ (r : ℕ × List ℕ). (r.0 < 512) × AreScalars r.1) (is_digit 8 c) (λ e. let d = ltb-true (digit_value c) 8 e in (omega (arith, h, d), back c cs s)) (omega (arith, h), s)

octal-good : (n : ℕ) (cs : List ℕ) → n < 8 → AreScalars cs → ((octal 2 n cs).0 < 512) × AreScalars (octal 2 n cs).1
octal-good n [] h s = (omega (arith, h), refl)
octal-good n (c ∷ cs) h s =
    either_by (λ (r : ℕ × List ℕ). (r.0 < 512) × AreScalars r.1) (is_digit 8 c)
    (λ e. let d = ltb-true (digit_value c) 8 e in octal-one (n * 8 + digit_value c) cs (omega (arith, h, d)) (back c cs s)) (omega (arith, h), s)

braced-good : (digits rest : List ℕ) → AreScalars rest → Leaves IsScalar (braced digits rest)
braced-good [] rest s = tt
braced-good (d ∷ digits) [] s = tt
braced-good (d ∷ digits) (c ∷ rest) s =
    either_by (Leaves IsScalar) (nat_eq c 125 && is_scalar (digits_value 16 (d ∷ digits)))
    (λ e. (read-scalar (digits_value 16 (d ∷ digits)) (and_parts (nat_eq c 125) (is_scalar (digits_value 16 (d ∷ digits))) e).1, back c rest s)) tt

second-good : (c : ℕ) (cs : List ℕ) → AreScalars cs → Leaves IsScalar (second_digit c cs)
second-good c [] s = tt
second-good c (d ∷ cs) s =
    either_by (Leaves IsScalar) (is_digit 16 c && is_digit 16 d)
    (λ e.
    let both = and_parts (is_digit 16 c) (is_digit 16 d) e in
    let high = ltb-true (digit_value c) 16 both.0 in
    let low = ltb-true (digit_value d) 16 both.1 in
    (low_scalar (digit_value c * 16 + digit_value d) (omega (arith, high, low)), back d cs s)) tt

hexadecimal-good : (cs : List ℕ) → AreScalars cs → Leaves IsScalar (hexadecimal cs)
hexadecimal-good [] s = tt
hexadecimal-good (c ∷ cs) s =
    let rest = back c cs s in
    either (Leaves IsScalar) (nat_eq c 123) (braced-good (run (is_digit 16) cs) (behind (is_digit 16) cs) (behind-scalars (is_digit 16) cs rest)) (second-good c cs rest)

control-scalar : (c : ℕ) → IsScalar c → IsScalar (control c)
control-scalar c s =
    either IsScalar (nat_eq c 110) refl (either IsScalar (nat_eq c 116) refl (either IsScalar (nat_eq c 114) refl (either IsScalar (nat_eq c 98) refl (either IsScalar (nat_eq c 102) refl
    (either IsScalar (nat_eq c 118) refl (either IsScalar (nat_eq c 101) refl (either IsScalar (nat_eq c 115) refl (either IsScalar (nat_eq c 100) refl s))))))))

escaped-good : (cs : List ℕ) → AreScalars cs → Leaves IsScalar (escaped cs)
escaped-good [] s = tt
escaped-good (c ∷ cs) s =
    let rest = back c cs s in
    either_by (Leaves IsScalar) (is_digit 8 c)
    (λ e. let o = octal-good (digit_value c) cs (ltb-true (digit_value c) 8 e) rest in (low_scalar (octal 2 (digit_value c) cs).0 (omega (arith, o.0)), o.1))
    (either (Leaves IsScalar) (nat_eq c 120) (hexadecimal-good cs rest)
    (either (Leaves IsScalar) (nat_eq c 94) tt (control-scalar c (front c cs s), rest)))

character-good : (c : ℕ) (cs : List ℕ) → IsScalar c → AreScalars cs → Leaves IsScalar (quoted_character c cs)
character-good c cs e s = either (Leaves IsScalar) (nat_eq c 92) (escaped-good cs s) (e, s)

behind_character-good : (f : List ℕ → List ℕ → Option (List ℕ × List ℕ)) (done : List ℕ) (o : Option (ℕ × List ℕ)) → AreScalars done → Leaves IsScalar o
    → ((now rest : List ℕ) → AreScalars now → AreScalars rest → Leaves AreScalars (f now rest)) → Leaves AreScalars (behind_character f done o)
behind_character-good f done None d h k = tt
behind_character-good f done (Some (x, rest)) d h k = k (done ++ x ∷ []) rest (joined done (x ∷ []) d (more x [] h.0 refl)) h.1

quoted-good : (n q : ℕ) (done cs : List ℕ) → AreScalars done → AreScalars cs → Leaves AreScalars (quoted_from n q done cs)
unfolding quoted_from
quoted-good zero q done cs d s = tt
quoted-good (suc n) q done [] d s = tt
quoted-good (suc n) q done (c ∷ cs) d s = either (Leaves AreScalars) (nat_eq c q) (d, back c cs s)
    (behind_character-good (quoted_from n q) done (quoted_character c cs) d (character-good c cs (front c cs s) (back c cs s)) (λ now rest e t. quoted-good n q now rest e t))

quoted_atom-good : (cs : List ℕ) → AreScalars cs → Leaves IsGood (quoted_atom cs)
quoted_atom-good cs s = then-leaves AreScalars IsGood atom_of (quoted 39 cs) (quoted-good (length cs) 39 [] cs refl s) (λ r c t. atom-good r.0 r.1 c t)

string-good : (cs : List ℕ) → AreScalars cs → Leaves IsGood (string cs)
string-good cs s = go (quoted 34 cs) (quoted-good (length cs) 34 [] cs refl s)
  where
    go : (o : Option (List ℕ × List ℕ)) → Leaves AreScalars o → Leaves IsGood (option_map string_of o)
    go None h = tt
    go (Some r) h = h

-- ---- binaries

binary-good : (place : _) (spelled cs : List ℕ) → AreScalars cs → Leaves IsGood (binary_from place spelled cs)
binary-good place spelled [] s = tt
binary-good place spelled (c ∷ cs) s = either (Leaves IsGood) (ends_binary place c cs) (tt, drop-scalars cs (back c cs s)) (binary-good (place_behind place c) (spelled ++ c ∷ []) cs (back c cs s))

binary_behind-good : (cs : List ℕ) → AreScalars cs → Leaves IsGood (binary_behind cs)
binary_behind-good cs s = after-leaves IsGood binary (after (codes "<") cs) (after-scalars (codes "<") cs s) (λ rest t. binary-good _ (codes "<<") rest t)

-- ---- pids and references

abbrev UpTo : ℕ → ℕ → Type 0
UpTo most n = nat_le n most ≡ true

bounded-good : (most : ℕ) (digits rest : List ℕ) → AreScalars rest → Leaves (UpTo most) (bounded most digits rest)
bounded-good most [] rest s = tt
bounded-good most (d ∷ digits) rest s = either_by (Leaves (UpTo most)) (nat_le (digits_value 10 (d ∷ digits)) most) (λ e. (e, s)) tt

up_to-good : (most : ℕ) (cs : List ℕ) → AreScalars cs → Leaves (UpTo most) (number_up_to most cs)
up_to-good most cs s = bounded-good most (run (is_digit 10) cs) (behind (is_digit 10) cs) (behind-scalars (is_digit 10) cs s)

with_word-good : (most : ℕ) (word : List ℕ) (r : ℕ × List ℕ) → UpTo most r.0 → AreScalars r.1 → Leaves (UpTo most) (with_word word r)
with_word-good most word r h s = after-leaves (UpTo most) (λ rest. Some (r.0, rest)) (after word r.1) (after-scalars word r.1 s) (λ rest t. (h, t))

node-good : (cs : List ℕ) → AreScalars cs → Leaves (UpTo (2 ^ 32 - 1)) (node cs)
node-good cs s = then-leaves (UpTo (2 ^ 32 - 1)) (UpTo (2 ^ 32 - 1)) (with_word (codes ".")) (number_up_to (2 ^ 32 - 1) cs) (up_to-good (2 ^ 32 - 1) cs s) (λ r h t. with_word-good (2 ^ 32 - 1) (codes ".") r h t)

last-good : (cs : List ℕ) → AreScalars cs → Leaves (UpTo (2 ^ 62)) (last_number cs)
last-good cs s = then-leaves (UpTo (2 ^ 62)) (UpTo (2 ^ 62)) (with_word (codes ">")) (number_up_to (2 ^ 62) cs) (up_to-good (2 ^ 62) cs s) (λ r h t. with_word-good (2 ^ 62) (codes ">") r h t)

abbrev Makes : (ℕ → ℕ → Token) → Type 0
Makes make = (n k : ℕ) → UpTo (2 ^ 32 - 1) n → UpTo (2 ^ 62) k → IsGood (make n k)

with_number-good : (make : ℕ → ℕ → Token) (r : ℕ × List ℕ) → Makes make → UpTo (2 ^ 32 - 1) r.0 → AreScalars r.1 → Leaves IsGood (with_number make r)
with_number-good make r makes h s = then-leaves (UpTo (2 ^ 62)) IsGood (λ (k : ℕ × List ℕ). Some (make r.0 k.0, k.1)) (last_number r.1) (last-good r.1 s) (λ k l t. (makes r.0 k.0 h l, t))

identifier-good : (make : ℕ → ℕ → Token) (cs : List ℕ) → Makes make → AreScalars cs → Leaves IsGood (option_and_then (with_number make) (node cs))
identifier-good make cs makes s = then-leaves (UpTo (2 ^ 32 - 1)) IsGood (with_number make) (node cs) (node-good cs s) (λ r h t. with_number-good make r makes h t)

either-good : (o p : Option (List ℕ)) → IfSome o AreScalars → IfSome p AreScalars → Leaves IsGood (pid_or_reference o p)
either-good (Some cs) p h k = identifier-good token.Pid cs (λ n i a b. (a, b)) h
either-good None (Some cs) h k = identifier-good token.Ref cs (λ n i a b. (a, b)) k
either-good None None h k = tt

hash-good : (cs : List ℕ) → AreScalars cs → Leaves IsGood (behind_hash cs)
hash-good cs s = go (after (codes "{") cs) (after-scalars (codes "{") cs s)
  where
    go : (o : Option (List ℕ)) → IfSome o AreScalars → Leaves IsGood (map_or_identifier o cs)
    go (Some rest) h = (tt, h)
    go None h = either-good (after (codes "Pid<") cs) (after (codes "Ref<") cs) (after-scalars (codes "Pid<") cs s) (after-scalars (codes "Ref<") cs s)

-- ---- marks

arrow-good : (o : Option (List ℕ)) → IfSome o AreScalars → Leaves IsGood (option_map (λ rest. (token.Arrow, rest)) o)
arrow-good None h = tt
arrow-good (Some rest) h = (tt, h)

mark-good : (c : ℕ) (cs : List ℕ) → AreScalars cs → Leaves IsGood (mark c cs)
mark-good c cs s =
    either (Leaves IsGood) (nat_eq c 123) (tt, s) (either (Leaves IsGood) (nat_eq c 125) (tt, s) (either (Leaves IsGood) (nat_eq c 91) (tt, s) (either (Leaves IsGood) (nat_eq c 93) (tt, s)
    (either (Leaves IsGood) (nat_eq c 44) (tt, s) (either (Leaves IsGood) (nat_eq c 124) (tt, s) (either (Leaves IsGood) (nat_eq c 58) (tt, s) (either (Leaves IsGood) (nat_eq c 47) (tt, s)
    (either (Leaves IsGood) (nat_eq c 46) (tt, s) (either (Leaves IsGood) (nat_eq c 61) (arrow-good (after (codes ">") cs) (after-scalars (codes ">") cs s)) tt)))))))))

pub token-good : (cs : List ℕ) → AreScalars cs → Leaves IsGood (token_at cs)
token-good [] s = tt
token-good (c ∷ cs) s =
    let rest = back c cs s in
    either (Leaves IsGood) (is_digit 10 c) (number-good [] (c ∷ cs) s)
    (either (Leaves IsGood) (begins_name c) (name-good (c ∷ cs) s)
    (either (Leaves IsGood) (nat_eq c 45) (negative-good cs rest)
    (either (Leaves IsGood) (nat_eq c 39) (quoted_atom-good cs rest)
    (either (Leaves IsGood) (nat_eq c 34) (string-good cs rest)
    (either (Leaves IsGood) (nat_eq c 60) (binary_behind-good cs rest)
    (either (Leaves IsGood) (nat_eq c 35) (hash-good cs rest)
    (mark-good c cs rest)))))))

-- ---- the tokens of a form

abbrev pub AllGood : List Token → Type 0
AllGood [] = ⊤
AllGood (t ∷ ts) = IsGood t × AllGood ts

joined_string-good : (xs : List ℕ) (t : Token) → AreScalars xs → IsGood t → AllGood (joined_string xs t)
joined_string-good xs (token.Str ys) s g = (joined xs ys s g, tt)
joined_string-good xs t s g = (s, (g, tt))

joined-good : (last t : Token) → IsGood last → IsGood t → AllGood (joined_tokens last t)
joined-good (token.Str xs) t l g = joined_string-good xs t l g
joined-good last t l g = (l, (g, tt))

with_token-good : (ts : List Token) (t : Token) → AllGood ts → IsGood t → AllGood (with_token ts t)
with_token-good [] t all g = (g, tt)
with_token-good (last ∷ []) t all g = joined-good last t all.0 g
with_token-good (first ∷ second ∷ ts) t all g = (all.0, with_token-good (second ∷ ts) t all.1 g)

skip-scalars : (in_comment : Bool) (cs : List ℕ) → AreScalars cs → AreScalars (skip in_comment cs)
skip-scalars in_comment [] s = refl
skip-scalars true (c ∷ cs) s = skip-scalars (not (nat_eq c 10)) cs (back c cs s)
skip-scalars false (c ∷ cs) s = either AreScalars (nat_eq c 37) (skip-scalars true cs (back c cs s)) (either AreScalars (is_blank c) (skip-scalars false cs (back c cs s)) s)

behind_token-good : (f : List Token → List ℕ → Option (List Token × List ℕ)) (done : List Token) (o : Option (Token × List ℕ)) → AllGood done → Leaves IsGood o
    → ((now : List Token) (rest : List ℕ) → AllGood now → AreScalars rest → Leaves AllGood (f now rest)) → Leaves AllGood (behind_token f done o)
behind_token-good f done None d h k = tt
behind_token-good f done (Some (t, rest)) d h k = k (with_token done t) (skip_blank rest) (with_token-good done t d h.0) (skip-scalars false rest h.1)

tokens-good : (n : ℕ) (done : List Token) (cs : List ℕ) → AllGood done → AreScalars cs → Leaves AllGood (tokens_from n done cs)
unfolding tokens_from
tokens-good zero done cs d s = tt
tokens-good (suc n) done [] d s = tt
tokens-good (suc n) done (c ∷ cs) d s = either (Leaves AllGood) (is_full_stop (c ∷ cs)) (d, back c cs s)
    (behind_token-good (tokens_from n) done (token_at (c ∷ cs)) d (token-good (c ∷ cs) s) (λ now rest e t. tokens-good n now rest e t))

-- the tokens of a form of scalar values are in range, and a text of scalar values is left
pub form-left : (text : List ℕ) (ts : List Token) (rest : List ℕ) → AreScalars text → HasTokens text ts rest → AllGood ts × AreScalars rest
form-left text ts rest s h = subst (Leaves AllGood) (walked h) (tokens-good (length (skip_blank text)) [] (skip_blank text) tt (skip-scalars false text s))

pub form-good : (text : List ℕ) (ts : List Token) (rest : List ℕ) → AreScalars text → HasTokens text ts rest → AllGood ts
form-good text ts rest s h = (form-left text ts rest s h).0
