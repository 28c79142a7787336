use Rattle.std.proofs.Common.{refl}
use lib.Utf8.{encode}
use Rattle.beam_code.specs.Flow.{flow}
use Rattle.beam_code.proofs.worked.worked_weights.Goals as goal

pub returns : goal.returns
unfolding flow encode
returns c = record { rows = refl; answers = refl; jumps = refl; loops = refl; waits = refl; meets = refl; dead = refl }
