-- An atom's print begins with that atom's token.
use Rattle.std.proofs.Common.{◌≡◌, ℕ, ◌≤◌, Bool, true, false, not, ◌&&◌, nat_eq, if◌then◌else◌, List, [], ◌∷◌, ◌++◌, length, codes, None, Some, option_and_then, refl, sym, ap, ◌∙◌, subst, append_assoc, true≢false, arith}
use Rattle.std.specs.List.{flat_map, list_all}
use Rattle.std.specs.Str.{bytes_eq, all_scalars}
use Rattle.std.proofs.lemmas.Bool.{and_parts, not-true, or_left, le-leb, false_from_ne_true}
use Rattle.std.proofs.lemmas.Slice.Eq.{bytes_eq-Decides}
use Rattle.std.proofs.lemmas.Bool.Decides.{nat_tests}
use Rattle.ej_term.specs.Atoms as ascii
use Rattle.ej_term.specs.Atoms.{is_plain, is_name, is_lower, is_reserved, is_between}
use Rattle.ej_term.specs.TermPrint.{print_atom, quoted_character}
use Rattle.asm_terms.specs.Runs.{behind, begins}
use Rattle.asm_terms.specs.Numbers.{is_digit}
use Rattle.asm_terms.specs.Names.{begins_name, is_name_character, word, name}
use Rattle.asm_terms.specs.Names as names
use Rattle.asm_terms.specs.Blanks.{is_blank, ends_form}
use Rattle.asm_terms.specs.Tokens.{token_at, atom_of}
use Rattle.asm_terms.specs.declared.token.Token.TheVariants as token
use Rattle.term_text.proofs.Fronts.{if-true, if-false, run-front, behind-front, Begins}
use Rattle.term_text.proofs.Quoted.{quoted-read}

no-digit : (c : ℕ) → is_lower c ≡ true → is_digit 10 c ≡ false
no-digit c h = grind (arith, nat_tests)

no-comment : (c : ℕ) → is_lower c ≡ true → nat_eq c 37 ≡ false
no-comment c h = grind (arith, nat_tests)

no-blank : (c : ℕ) → is_lower c ≡ true → is_blank c ≡ false
no-blank c h = grind (arith, nat_tests)

no-stop : (c : ℕ) → is_lower c ≡ true → nat_eq c 46 ≡ false
no-stop c h = grind (arith, nat_tests)

name-character : (c : ℕ) → is_lower c ≡ true → is_name_character c ≡ true
name-character c h = or_left _ _ (or_left _ _ (or_left _ _ (or_left _ _ (or_left _ _ h))))

name-characters : (cs : List ℕ) → list_all ascii.is_name_character cs ≡ true → list_all is_name_character cs ≡ true
name-characters [] h = refl
name-characters (c ∷ cs) h =
    let parts = and_parts (ascii.is_name_character c) (list_all ascii.is_name_character cs) h in
    ap (λ b. b && list_all is_name_character cs) (or_left (ascii.is_name_character c) _ parts.0) ∙ name-characters cs parts.1

fun-reserved : (cs : List ℕ) → is_reserved cs ≡ false → bytes_eq cs (codes "fun") ≡ false
fun-reserved cs h =
    false_from_ne_true (bytes_eq cs (codes "fun")) (λ e. true≢false (subst (λ x. is_reserved x ≡ false) ((bytes_eq-Decides cs (codes "fun")).0 e) h))

short-atom : (cs rest : List ℕ) → length cs ≤ 255 → names.atom cs rest ≡ Some (token.Atom cs, rest)
short-atom cs rest short = ap (λ b. if b then Some (token.Atom cs, rest) else None) (le-leb (length cs) 255 short)

-- a name as a token
plain-token : (c : ℕ) (cs rest : List ℕ) → is_plain (c ∷ cs) ≡ true → length (c ∷ cs) ≤ 255 → begins is_name_character rest ≡ false
    → token_at (c ∷ (cs ++ rest)) ≡ Some (token.Atom (c ∷ cs), rest)
plain-token c cs rest plain short stop =
    let parts = and_parts (is_name (c ∷ cs)) (not (is_reserved (c ∷ cs))) plain in
    let first = and_parts (is_lower c) (list_all ascii.is_name_character cs) parts.0 in
    let pass = ap (λ b. b && list_all is_name_character cs) (name-character c first.0) ∙ name-characters cs first.1 in
    if-false (is_digit 10 c) _ _ (no-digit c first.0) ∙ if-true (begins_name c) _ _ (or_left (is_lower c) _ first.0)
    ∙ ap (λ front. word front (behind is_name_character (c ∷ (cs ++ rest)))) (run-front is_name_character (c ∷ cs) rest pass stop)
    ∙ ap (word (c ∷ cs)) (behind-front is_name_character (c ∷ cs) rest pass stop)
    ∙ if-false (bytes_eq (c ∷ cs) (codes "fun")) _ _ (fun-reserved (c ∷ cs) (not-true (is_reserved (c ∷ cs)) parts.1))
    ∙ short-atom (c ∷ cs) rest short

-- characters between quotes as a token
quoted-token : (cs rest : List ℕ) → all_scalars cs ≡ true → length cs ≤ 255 → token_at (39 ∷ (flat_map quoted_character cs ++ 39 ∷ rest)) ≡ Some (token.Atom cs, rest)
quoted-token cs rest s short = ap (option_and_then atom_of) (quoted-read cs rest s) ∙ short-atom cs rest short

plain-begins : (name : List ℕ) → is_plain name ≡ true → length name ≤ 255 → Begins name (token.Atom name)
plain-begins [] plain short = absurd (true≢false (sym plain))
plain-begins (c ∷ cs) plain short =
    let first = (and_parts (is_lower c) (list_all ascii.is_name_character cs) (and_parts (is_name (c ∷ cs)) (not (is_reserved (c ∷ cs))) plain).0).0 in
    record {
      solid = λ rest. if-false (nat_eq c 37) _ _ (no-comment c first) ∙ if-false (is_blank c) _ _ (no-blank c first);
      goes_on = λ rest. ap (λ b. b && ends_form (cs ++ rest)) (no-stop c first);
      token = λ rest stop. plain-token c cs rest plain short stop.no_name;
    }

quoted-begins : (name : List ℕ) → all_scalars name ≡ true → length name ≤ 255 → Begins (39 ∷ (flat_map quoted_character name ++ 39 ∷ [])) (token.Atom name)
quoted-begins name s short = record {
  solid = λ rest. refl;
  goes_on = λ rest. refl;
  token = λ rest stop. ap (λ cs. token_at (39 ∷ cs)) (append_assoc (flat_map quoted_character name) (39 ∷ []) rest) ∙ quoted-token name rest s short;
}

pub atom-begins : (name : List ℕ) → all_scalars name ≡ true → length name ≤ 255 → Begins (print_atom name) (token.Atom name)
atom-begins name s short = by (is_plain name) refl
  where
    by : (b : Bool) → is_plain name ≡ b → Begins (if b then name else 39 ∷ (flat_map quoted_character name ++ 39 ∷ [])) (token.Atom name)
    by true e = plain-begins name e short
    by false e = quoted-begins name s short
