use Rattle.std.proofs.Common.{◌≡◌, drop}
use Rattle.std.specs.List.{list_all}
use Rattle.beam_code.specs.RowFits.{is_case}
use Rattle.beam_code.proofs.fits.are_cases.Given as goal

abbrev pub invariant-loop-value : goal.invariant-loop-value
invariant-loop-value l = list_all is_case (drop l.value-index l.cases) ≡ list_all is_case l.cases
