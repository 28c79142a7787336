use Rattle.std.proofs.Common.{◌≡◌, drop}
use Rattle.std.specs.List.{list_all}
use Rattle.beam_code.specs.RowFits.{is_arity}
use Rattle.beam_code.proofs.fits.are_arities.Given as goal

abbrev pub invariant-loop-size : goal.invariant-loop-size
invariant-loop-size l = list_all is_arity (drop l.size-index l.cases) ≡ list_all is_arity l.cases
