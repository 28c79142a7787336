use Rattle.std.proofs.Common.{◌≡◌, drop}
use Rattle.std.specs.List.{list_all}
use Rattle.ej_term.specs.Atoms.{is_between}
use Rattle.term_ops.proofs.digits.are_digits.Given as goal

abbrev pub invariant-loop-number : goal.invariant-loop-number
invariant-loop-number l = list_all (is_between 48 57) (drop l.number-index l.numbers) ≡ list_all (is_between 48 57) l.numbers
