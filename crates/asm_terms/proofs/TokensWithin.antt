-- A token takes one character at least.
use Rattle.std.proofs.Common.{◌≡◌, ℕ, zero, suc, ◌≤◌, ◌^◌, ◌-◌, Bool, true, false, not, nat_eq, nat_le, List, [], ◌∷◌, ◌++◌, length, drop, codes, if◌then◌else◌, Option, Some, None, IfSome, option_map, option_and_then, arith, refl}
use Rattle.std.specs.Str.{bytes_eq}
use Rattle.std.specs.Str.Parse.{digits_value}
use Rattle.asm_terms.specs.declared.token.Token.{Token}
use Rattle.asm_terms.specs.declared.token.Token.TheVariants as token
use Rattle.asm_terms.specs.declared.binary.Place.{Place}
use Rattle.asm_terms.specs.Runs.{run, behind, after}
use Rattle.asm_terms.specs.Blanks.{skip, is_blank}
use Rattle.asm_terms.specs.Numbers.{is_digit, begins_number, begins_fraction, is_exponent_mark, is_sign, exponent, signed_exponent, exponent_digits, with_exponent, float, with_fraction, whole_or_float, number}
use Rattle.asm_terms.specs.Names.{begins_name, is_name_character, name, word, atom}
use Rattle.asm_terms.specs.Quotes.{quoted_from, quoted, behind_character, quoted_character}
use Rattle.asm_terms.specs.Binaries.{binary_from, binary, ends_binary, place_behind}
use Rattle.asm_terms.specs.Identifiers.{bounded, number_up_to, with_word, node, last_number, with_number, pid_or_reference, map_or_identifier, behind_hash}
use Rattle.asm_terms.specs.Tokens.{negative, atom_of, quoted_atom, string_of, string, binary_behind, mark, token_at}
use Rattle.asm_terms.proofs.Shorter.{Within, either, weaken, behind-within, character-within}

either_by : {A : Type 0} (P : A → Type 0) (b : Bool) {x y : A} → (b ≡ true → P x) → P y → P (if b then x else y)
either_by P true h k = h refl
either_by P false h k = k

then_within : {A B : Type 0} (most : ℕ) (f : A × List ℕ → Option (B × List ℕ)) (o : Option (A × List ℕ)) → Within most o
    → ((r : A × List ℕ) → length r.1 ≤ most → Within most (f r)) → Within most (option_and_then f o)
then_within most f None h k = tt
then_within most f (Some r) h k = k r h

after-within : (word cs : List ℕ) → IfSome (after word cs) (λ rest. length rest ≤ length cs)
after-within [] cs = omega arith
after-within (w ∷ word) [] = tt
after-within (w ∷ word) (c ∷ cs) = either (λ o. IfSome o (λ rest. length rest ≤ length (c ∷ cs))) (nat_eq w c) (more (after word cs) (after-within word cs)) tt
  where
    more : (o : Option (List ℕ)) → IfSome o (λ rest. length rest ≤ length cs) → IfSome o (λ rest. length rest ≤ length (c ∷ cs))
    more None h = tt
    more (Some rest) h = omega (arith, h)

behind_after : {B : Type 0} (most : ℕ) (f : List ℕ → Option (B × List ℕ)) (word cs : List ℕ) → length cs ≤ most
    → ((rest : List ℕ) → length rest ≤ most → Within most (f rest)) → Within most (option_and_then f (after word cs))
behind_after {B} most f word cs h k = go (after word cs) (after-within word cs)
  where
    go : (o : Option (List ℕ)) → IfSome o (λ rest. length rest ≤ length cs) → Within most (option_and_then f o)
    go None w = tt
    go (Some rest) w = k rest (omega (arith, w, h))

-- numbers
digits-within : (before cs : List ℕ) → Within (length cs) (exponent_digits before cs)
digits-within before cs = either (Within (length cs)) (begins_number cs) (behind-within (is_digit 10) cs) tt

signed-within : (mark : ℕ) (cs : List ℕ) → Within (length cs) (signed_exponent mark cs)
signed-within mark [] = tt
signed-within mark (c ∷ cs) = either (Within (length (c ∷ cs))) (is_sign c)
    (weaken (length cs) (length (c ∷ cs)) (exponent_digits (mark ∷ c ∷ []) cs) (omega arith) (digits-within (mark ∷ c ∷ []) cs))
    (digits-within (mark ∷ []) (c ∷ cs))

exponent-within : (cs : List ℕ) → Within (length cs) (exponent cs)
exponent-within [] = tt
exponent-within (c ∷ cs) = either (Within (length (c ∷ cs))) (is_exponent_mark c)
    (weaken (length cs) (length (c ∷ cs)) (signed_exponent c cs) (omega arith) (signed-within c cs)) tt

with_exponent-within : (spelled rest : List ℕ) (o : Option (List ℕ × List ℕ)) → Within (length rest) o → length (float (with_exponent spelled o rest)).1 ≤ length rest
with_exponent-within spelled rest None h = omega arith
with_exponent-within spelled rest (Some r) h = h

fraction-within : (spelled cs : List ℕ) → length (with_fraction spelled cs).1 ≤ length cs
fraction-within spelled cs =
    omega (
      arith,
      with_exponent-within (spelled ++ run (is_digit 10) cs) (behind (is_digit 10) cs) (exponent (behind (is_digit 10) cs)) (exponent-within (behind (is_digit 10) cs)),
      behind-within (is_digit 10) cs,
    )

drop-within : (cs : List ℕ) → length (drop 1 cs) ≤ length cs
drop-within [] = omega arith
drop-within (c ∷ cs) = omega arith

whole-within : (spelled rest : List ℕ) → length (whole_or_float spelled rest).1 ≤ length rest
whole-within spelled rest = either (λ (r : Token × List ℕ). length r.1 ≤ length rest) (begins_fraction rest)
    (omega (arith, fraction-within (spelled ++ 46 ∷ []) (drop 1 rest), drop-within rest)) (omega arith)

number-within : (minus cs : List ℕ) → length (number minus cs).1 ≤ length (behind (is_digit 10) cs)
number-within minus cs = whole-within (minus ++ run (is_digit 10) cs) (behind (is_digit 10) cs)

behind-first : (p : ℕ → Bool) (c : ℕ) (cs : List ℕ) → p c ≡ true → length (behind p (c ∷ cs)) ≤ length cs
behind-first p c cs e = rw e (behind-within p cs)

negative-within : (cs : List ℕ) → Within (length cs) (negative cs)
negative-within cs = either (Within (length cs)) (begins_number cs) (omega (arith, number-within (codes "-") cs, behind-within (is_digit 10) cs)) tt

-- atoms
atom-within : (most : ℕ) (characters rest : List ℕ) → length rest ≤ most → Within most (atom characters rest)
atom-within most characters rest h = either (Within most) (nat_le (length characters) 255) h tt

begins_inside : (c : ℕ) → begins_name c ≡ true → is_name_character c ≡ true
begins_inside c h = grind arith

name-within : (c : ℕ) (cs : List ℕ) → begins_name c ≡ true → Within (length cs) (name (c ∷ cs))
name-within c cs e = either (Within (length cs)) (bytes_eq (run is_name_character (c ∷ cs)) (codes "fun"))
    (behind-first is_name_character c cs (begins_inside c e))
    (atom-within (length cs) (run is_name_character (c ∷ cs)) (behind is_name_character (c ∷ cs)) (behind-first is_name_character c cs (begins_inside c e)))

-- quotes
behind_character-within : (most : ℕ) (f : List ℕ → List ℕ → Option (List ℕ × List ℕ)) (done : List ℕ) (o : Option (ℕ × List ℕ)) → Within most o
    → ((now rest : List ℕ) → length rest ≤ most → Within most (f now rest)) → Within most (behind_character f done o)
behind_character-within most f done None h k = tt
behind_character-within most f done (Some (x, rest)) h k = k (done ++ x ∷ []) rest h

quoted-within : (n q most : ℕ) (done cs : List ℕ) → length cs ≤ most → Within most (quoted_from n q done cs)
unfolding quoted_from
quoted-within zero q most done cs h = tt
quoted-within (suc n) q most done [] h = tt
quoted-within (suc n) q most done (c ∷ cs) h = either (Within most) (nat_eq c q) (omega (arith, h))
    (behind_character-within most (quoted_from n q) done (quoted_character c cs) (weaken (length cs) most (quoted_character c cs) (omega (arith, h)) (character-within c cs))
    (λ now rest l. quoted-within n q most now rest l))

quoted_atom-within : (cs : List ℕ) → Within (length cs) (quoted_atom cs)
quoted_atom-within cs = then_within (length cs) atom_of (quoted 39 cs) (quoted-within (length cs) 39 (length cs) [] cs (omega arith)) (λ r h. atom-within (length cs) r.0 r.1 h)

map-within : {A B : Type 0} (most : ℕ) (f : A × List ℕ → B × List ℕ) (o : Option (A × List ℕ)) → Within most o
    → ((r : A × List ℕ) → length r.1 ≤ most → length (f r).1 ≤ most) → Within most (option_map f o)
map-within most f None h k = tt
map-within most f (Some r) h k = k r h

string-within : (cs : List ℕ) → Within (length cs) (string cs)
string-within cs = map-within (length cs) string_of (quoted 34 cs) (quoted-within (length cs) 34 (length cs) [] cs (omega arith)) (λ r h. h)

-- binaries
binary-within : (place : Place) (most : ℕ) (spelled cs : List ℕ) → length cs ≤ most → Within most (binary_from place spelled cs)
binary-within place most spelled [] h = tt
binary-within place most spelled (c ∷ cs) h = either (Within most) (ends_binary place c cs) (omega (arith, drop-within cs, h))
    (binary-within (place_behind place c) most (spelled ++ c ∷ []) cs (omega (arith, h)))

binary_behind-within : (cs : List ℕ) → Within (length cs) (binary_behind cs)
binary_behind-within cs = behind_after (length cs) binary (codes "<") cs (omega arith) (λ rest h. binary-within _ (length cs) (codes "<<") rest h)

-- pids and references
bounded-within : (most limit : ℕ) (digits rest : List ℕ) → length rest ≤ most → Within most (bounded limit digits rest)
bounded-within most limit [] rest h = tt
bounded-within most limit (d ∷ digits) rest h = either (Within most) (nat_le (digits_value 10 (d ∷ digits)) limit) h tt

up_to-within : (most limit : ℕ) (cs : List ℕ) → length cs ≤ most → Within most (number_up_to limit cs)
up_to-within most limit cs h = bounded-within most limit (run (is_digit 10) cs) (behind (is_digit 10) cs) (omega (arith, h, behind-within (is_digit 10) cs))

with_word-within : (most : ℕ) (word : List ℕ) (r : ℕ × List ℕ) → length r.1 ≤ most → Within most (with_word word r)
with_word-within most word r h = behind_after most (λ rest. Some (r.0, rest)) word r.1 h (λ rest l. l)

node-within : (most : ℕ) (cs : List ℕ) → length cs ≤ most → Within most (node cs)
node-within most cs h = then_within most (with_word (codes ".")) (number_up_to (2 ^ 32 - 1) cs) (up_to-within most (2 ^ 32 - 1) cs h) (λ r l. with_word-within most (codes ".") r l)

last-within : (most : ℕ) (cs : List ℕ) → length cs ≤ most → Within most (last_number cs)
last-within most cs h = then_within most (with_word (codes ">")) (number_up_to (2 ^ 62) cs) (up_to-within most (2 ^ 62) cs h) (λ r l. with_word-within most (codes ">") r l)

with_number-within : (most : ℕ) (make : ℕ → ℕ → Token) (r : ℕ × List ℕ) → length r.1 ≤ most → Within most (with_number make r)
with_number-within most make r h = then_within most (λ (k : ℕ × List ℕ). Some (make r.0 k.0, k.1)) (last_number r.1) (last-within most r.1 h) (λ k l. l)

identifier-within : (most : ℕ) (make : ℕ → ℕ → Token) (cs : List ℕ) → length cs ≤ most → Within most (option_and_then (with_number make) (node cs))
identifier-within most make cs h = then_within most (with_number make) (node cs) (node-within most cs h) (λ r l. with_number-within most make r l)

either-within : (most : ℕ) (o p : Option (List ℕ)) → IfSome o (λ rest. length rest ≤ most) → IfSome p (λ rest. length rest ≤ most) → Within most (pid_or_reference o p)
either-within most (Some cs) p h k = identifier-within most token.Pid cs h
either-within most None (Some cs) h k = identifier-within most token.Ref cs k
either-within most None None h k = tt

hash-within : (cs : List ℕ) → Within (length cs) (behind_hash cs)
hash-within cs = go (after (codes "{") cs) (after-within (codes "{") cs)
  where
    go : (o : Option (List ℕ)) → IfSome o (λ rest. length rest ≤ length cs) → Within (length cs) (map_or_identifier o cs)
    go (Some rest) h = h
    go None h = either-within (length cs) (after (codes "Pid<") cs) (after (codes "Ref<") cs) (after-within (codes "Pid<") cs) (after-within (codes "Ref<") cs)

-- marks
arrow-within : (most : ℕ) (o : Option (List ℕ)) → IfSome o (λ rest. length rest ≤ most) → Within {A = Token} most (option_map (λ rest. (token.Arrow, rest)) o)
arrow-within most None h = tt
arrow-within most (Some rest) h = h

mark-within : (c : ℕ) (cs : List ℕ) → Within (length cs) (mark c cs)
mark-within c cs =
    either (Within (length cs)) (nat_eq c 123) (omega arith)
    (either (Within (length cs)) (nat_eq c 125) (omega arith)
    (either (Within (length cs)) (nat_eq c 91) (omega arith)
    (either (Within (length cs)) (nat_eq c 93) (omega arith)
    (either (Within (length cs)) (nat_eq c 44) (omega arith)
    (either (Within (length cs)) (nat_eq c 124) (omega arith)
    (either (Within (length cs)) (nat_eq c 58) (omega arith)
    (either (Within (length cs)) (nat_eq c 47) (omega arith)
    (either (Within (length cs)) (nat_eq c 46) (omega arith)
    (either (Within (length cs)) (nat_eq c 61) (arrow-within (length cs) (after (codes ">") cs) (after-within (codes ">") cs)) tt)))))))))

pub token-within : (c : ℕ) (cs : List ℕ) → Within (length cs) (token_at (c ∷ cs))
token-within c cs =
    either_by (Within (length cs)) (is_digit 10 c) (λ e. omega (arith, number-within [] (c ∷ cs), behind-first (is_digit 10) c cs e))
    (either_by (Within (length cs)) (begins_name c) (name-within c cs)
    (either (Within (length cs)) (nat_eq c 45) (negative-within cs)
    (either (Within (length cs)) (nat_eq c 39) (quoted_atom-within cs)
    (either (Within (length cs)) (nat_eq c 34) (string-within cs)
    (either (Within (length cs)) (nat_eq c 60) (binary_behind-within cs)
    (either (Within (length cs)) (nat_eq c 35) (hash-within cs)
    (mark-within c cs)))))))

pub skip-within : (in_comment : Bool) (cs : List ℕ) → length (skip in_comment cs) ≤ length cs
skip-within in_comment [] = omega arith
skip-within true (c ∷ cs) = omega (arith, skip-within (not (nat_eq c 10)) cs)
skip-within false (c ∷ cs) = either (λ x. length x ≤ length (c ∷ cs)) (nat_eq c 37) (omega (arith, skip-within true cs))
    (either (λ x. length x ≤ length (c ∷ cs)) (is_blank c) (omega (arith, skip-within false cs)) (omega arith))
