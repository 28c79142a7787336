use Rattle.std.proofs.Common.{length}
use Rattle.ej_outside.proofs.file_shelf.write_all.Given as goal

-- how many bytes are left to write
abbrev pub decreases-loop-rest : goal.decreases-loop-rest
decreases-loop-rest g l = length l.rest
