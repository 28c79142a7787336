-- Which bytes are the print of a readable term.
use Rattle.std.specs.Prelude.{◌≡◌, ℕ, true, List}
use Rattle.ej_term.specs.Term.{Term}
use Rattle.ej_term.specs.TermPrint.{print}
use Rattle.ej_term.specs.WellFormed.{is_well_formed}
use Rattle.ej_term.specs.Readable.{is_readable}

-- these bytes are the print of that term, which is one of the profile and readable
pub record IsPrint (bytes : List ℕ) (term : Term) : Type 0 where
  pub printed : print term ≡ bytes
  pub well_formed : is_well_formed term ≡ true
  pub readable : is_readable term ≡ true

-- these bytes are no readable term's print
abbrev pub IsNoPrint : List ℕ → Type 0
IsNoPrint bytes = (term : Term) → IsPrint bytes term → ⊥
