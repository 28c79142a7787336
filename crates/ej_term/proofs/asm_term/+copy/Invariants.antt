use Rattle.std.proofs.Common.{◌≡◌, take}
use Rattle.ej_term.proofs.asm_term.+copy.Given as goal

abbrev pub invariant-copy_all-loop-term : goal.invariant-copy_all-loop-term
invariant-copy_all-loop-term l = l.copies ≡ take l.term-index l.terms

abbrev pub invariant-copy_pairs-loop-key : goal.invariant-copy_pairs-loop-key
invariant-copy_pairs-loop-key l = l.copies ≡ take l.key-index l.pairs
