use Rattle.std.proofs.Common.{◌≡◌, ◌++◌, length}
use Rattle.asm_terms.proofs.spelling.Spelling.to_items.Given as goal

abbrev pub invariant-loop-c : goal.invariant-loop-c
invariant-loop-c l = l.items ++ l.reader ≡ l.initial.reader

abbrev pub decreases-loop-c : goal.decreases-loop-c
decreases-loop-c l = length l.reader
