-- What characters come to that are to be read as an integer.
use Rattle.std.specs.Prelude.{ℕ, pos, nat_eq, if◌then◌else◌, List, [], ◌∷◌, Option, Some}
use Rattle.std.specs.Prelude as std
use Rattle.ej_term.specs.Term.{Term, Int, Atom}
use Rattle.ej_term.specs.Outcome.{Outcome, Value, badarg, system_limit}
use Rattle.term_ops.specs.declared.digits.Reading.{Reading}
use Rattle.term_ops.specs.declared.digits.Reading.TheVariants as r

-- the name of an atom
abbrev pub name_of : Term → Option (List ℕ)
name_of (Atom name) = Some name
name_of _ = std.None

-- the integer, error system_limit of one that does not fit, and error badarg of none
abbrev pub outcome_of : Reading → Outcome
outcome_of (r.Integer n) = Value (Int n)
outcome_of r.TooLarge = system_limit
outcome_of r.NoNumber = badarg

-- what stands behind a sign, and all where there is none
abbrev pub digits_of : List ℕ → List ℕ
digits_of [] = []
digits_of (c ∷ cs) = if nat_eq c 45 then cs else if nat_eq c 43 then cs else c ∷ cs
