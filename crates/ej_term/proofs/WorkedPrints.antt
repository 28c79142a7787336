-- The worked prints.
use Rattle.std.proofs.Common.{[], ◌∷◌, refl}
use Rattle.std.specs.Fmt.{digits}
use Rattle.ej_term.specs.Term.{Map, Pair, Empty, list}
use Rattle.ej_term.specs.Outcome.{number}
use Rattle.ej_term.specs.Worked.{PrintRows, a, b}
use Rattle.ej_term.proofs.ValueLemmas.{value_cases}
use Rattle.ej_term.proofs.PrintLemmas.{print_cases}
use Rattle.ej_term.proofs.PrintLaw.{law}

pub rows : PrintRows
unfolding digits
rows = record {
  improper = refl;
  quoted = refl;
  funs = refl;
  numbered = refl;
  map = law _ (Map (Pair a (number 1) (Pair b (number 2) Empty))) (simp value_cases);
  later = law _ (Map (Pair (list (number 97 ∷ [])) (number 2) Empty)) (simp value_cases);
  opaque = simp print_cases;
}
