-- The print of an atom is the literal of that atom.
use Rattle.std.proofs.Common.{◌≡◌, ℕ, Bool, true, false, if◌then◌else◌, List, [], ◌∷◌, ◌++◌, Some, refl, ap, ◌∙◌}
use Rattle.std.specs.List.{flat_map}
use Rattle.std.specs.Option.{option_and_then}
use Rattle.std.specs.Str.{all_scalars, bytes_eq}
use Rattle.std.proofs.lemmas.Slice.Eq.{bytes_eq-Decides}
use Rattle.ej_term.specs.Atoms.{is_plain}
use Rattle.ej_term.specs.Term as term
use Rattle.ej_term.specs.TermPrint.{quoted_character, print_atom}
use Rattle.term_text.proofs.Quoted.{quoted-read}
use Rattle.erjang_top.specs.first_path.ClassTurn.{term_printed, printed_as, whole}

if-true : {A : Type 0} (b : Bool) (x y : A) → b ≡ true → (if b then x else y) ≡ x
if-true b x y e = ap (λ c. if c then x else y) e

pub atom-printed : (name : List ℕ) → all_scalars name ≡ true → term_printed (print_atom name) ≡ Some (term.Atom name)
atom-printed name s = by (is_plain name) refl
  where
    text : List ℕ
    text = 39 ∷ (flat_map quoted_character name ++ 39 ∷ [])

    by : (b : Bool) → is_plain name ≡ b → term_printed (if b then name else 39 ∷ (flat_map quoted_character name ++ 39 ∷ [])) ≡ Some (term.Atom name)
    by true e = if-true (is_plain name) _ _ e
    by false e =
        let same : print_atom name ≡ text = ap (λ b. if b then name else text) e in
        ap (λ o. option_and_then (printed_as text) (whole o)) (quoted-read name [] s)
        ∙ if-true (bytes_eq (print_atom name) text) _ _ ((bytes_eq-Decides (print_atom name) text).1 same)
