use Rattle.std.proofs.Common.{◌≡◌, drop}
use Rattle.std.specs.List.{list_all}
use Rattle.beam_code.specs.RowFits.{is_pair}
use Rattle.beam_code.proofs.fits.are_pairs.Given as goal

abbrev pub invariant-loop-key : goal.invariant-loop-key
invariant-loop-key l = list_all is_pair (drop l.key-index l.pairs) ≡ list_all is_pair l.pairs
