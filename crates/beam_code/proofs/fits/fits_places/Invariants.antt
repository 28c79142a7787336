use Rattle.std.proofs.Common.{◌≡◌, drop}
use Rattle.beam_code.specs.RowFits as spec
use Rattle.beam_code.proofs.fits.fits_places.Given as goal

-- what the places and operands that are left come to is what all come to
abbrev pub invariant-loop-place : goal.invariant-loop-place
invariant-loop-place l = spec.fits_places l.number (drop l.place-index l.places) l.rest ≡ spec.fits_places 0 l.places l.operands
