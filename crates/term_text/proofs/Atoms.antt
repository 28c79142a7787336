-- An atom's print and a full stop are read as that atom.
use Rattle.std.proofs.Common.{◌≡◌, ℕ, ◌≤◌, true, List, [], ◌∷◌, ◌++◌, length, codes, refl}
use Rattle.std.specs.Str.{all_scalars}
use Rattle.std.proofs.lemmas.Bool.{le-leb}
use Rattle.ej_term.specs.declared.asm_term.AsmTerm.TheVariants as source
use Rattle.ej_term.specs.Term.{Atom}
use Rattle.ej_term.specs.TermPrint.{print_atom}
use Rattle.asm_terms.specs.Forms.{AreForms}
use Rattle.term_text.proofs.Law.{sound-forms}

pub atom-read : (name : List ℕ) → all_scalars name ≡ true → length name ≤ 255 → AreForms (print_atom name ++ codes ".\n") (source.Atom name ∷ [])
atom-read name scalars short = sound-forms (Atom name) (scalars, le-leb (length name) 255 short) refl
