use Rattle.std.proofs.Common.{refl}
use lib.Utf8.{encode}
use Rattle.beam_code.specs.Flow.{flow}
use Rattle.beam_code.proofs.worked.worked_slots.Goals as goal

pub returns : goal.returns
unfolding flow encode
returns c = record {
  rows = record { frames = refl; calls = refl; data_rows = refl; branches = refl; exceptions = refl };
  order = record { nothing = refl; term = refl; optional = refl; trace = refl; marker = refl; tag = refl; tags = refl };
}
