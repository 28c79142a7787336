use Rattle.std.proofs.Common.{◌≡◌, take}
use Rattle.ej_term.proofs.asm_term.+is_same.Given as goal

abbrev pub invariant-all_same-loop-at : goal.invariant-all_same-loop-at
invariant-all_same-loop-at l = take l.at l.terms ≡ take l.at l.others

abbrev pub invariant-same_pairs-loop-at : goal.invariant-same_pairs-loop-at
invariant-same_pairs-loop-at l = take l.at l.pairs ≡ take l.at l.others
