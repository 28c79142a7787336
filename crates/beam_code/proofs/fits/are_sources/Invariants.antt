use Rattle.std.proofs.Common.{◌≡◌, drop}
use Rattle.std.specs.List.{list_all}
use Rattle.beam_code.specs.RowFits.{is_source}
use Rattle.beam_code.proofs.fits.are_sources.Given as goal

abbrev pub invariant-loop-source : goal.invariant-loop-source
invariant-loop-source l = list_all is_source (drop l.source-index l.sources) ≡ list_all is_source l.sources
