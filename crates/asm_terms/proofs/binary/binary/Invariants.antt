use Rattle.std.proofs.Common.{◌≡◌, length}
use Rattle.asm_terms.specs.Binaries.{binary_from}
use Rattle.asm_terms.proofs.binary.binary.Given as goal

abbrev pub invariant-loop-c : goal.invariant-loop-c
invariant-loop-c l = binary_from l.place l.spelled l.reader ≡ binary_from l.initial.place l.initial.spelled l.initial.reader

abbrev pub decreases-loop-c : goal.decreases-loop-c
decreases-loop-c l = length l.reader
