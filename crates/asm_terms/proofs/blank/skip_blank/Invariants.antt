use Rattle.std.proofs.Common.{◌≡◌, length}
use Rattle.asm_terms.specs.Blanks.{skip}
use Rattle.asm_terms.proofs.blank.skip_blank.Given as goal

abbrev pub invariant-loop-c : goal.invariant-loop-c
invariant-loop-c l = skip l.in_comment l.reader ≡ skip l.initial.in_comment l.initial.reader

abbrev pub decreases-loop-c : goal.decreases-loop-c
decreases-loop-c l = length l.reader
