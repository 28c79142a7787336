use Rattle.std.proofs.Common.{refl}
use Rattle.beam_code.proofs.worked.worked_instructions.Goals as goal

pub returns : goal.returns
returns c = record {
  rows = (refl, refl);
  operands = (refl, refl);
  labels = (refl, refl, refl, refl, refl, refl);
  beginnings = (refl, refl, refl, refl, refl, refl, refl, refl, refl);
}
