-- A readable term's print is read back as that term.
use Rattle.std.specs.Prelude.{◌≡◌, ℕ, true, List, [], ◌∷◌, ◌++◌, codes, Some}
use Rattle.ej_term.specs.declared.asm_term.AsmTerm.{AsmTerm}
use Rattle.ej_term.specs.Term.{Term}
use Rattle.ej_term.specs.TermPrint.{print}
use Rattle.ej_term.specs.AsmValue.{value}
use Rattle.asm_terms.specs.Forms.{AreForms}
use Rattle.ej_term.specs.WellFormed.{is_well_formed}
use Rattle.ej_term.specs.Readable.{is_readable}

-- these bytes and a full stop are one form, which stands for that term
pub record IsRead (bytes : List ℕ) (term : Term) : Type 0 where
  pub form : AsmTerm
  pub is_form : AreForms (bytes ++ codes ".\n") (form ∷ [])
  pub stands : value form ≡ Some term

-- a term's print is read as that term exactly where the term is one of the profile and readable
pub record PrintsAreRead : Type 0 where
  pub read : (term : Term) → is_well_formed term ≡ true → is_readable term ≡ true → IsRead (print term) term
  pub no_other : (term : Term) → IsRead (print term) term → (is_well_formed term ≡ true) × (is_readable term ≡ true)
  -- bytes are read as one term at most, so readable terms with one print are the same
  pub one_term : (bytes : List ℕ) (term other : Term) → IsRead bytes term → IsRead bytes other → term ≡ other
