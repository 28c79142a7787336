use Rattle.std.proofs.Common.{◌≡◌, ◌++◌, length}
use Rattle.asm_terms.specs.Runs.{run, behind}
use Rattle.asm_terms.specs.Numbers.{is_digit}
use Rattle.asm_terms.proofs.number.push_digits.Given as goal

abbrev pub invariant-loop-c : goal.invariant-loop-c
invariant-loop-c l = record {
  spelled : l.spelled ++ run (is_digit l.base) l.reader ≡ l.initial.spelled ++ run (is_digit l.base) l.initial.reader;
  rest : behind (is_digit l.base) l.reader ≡ behind (is_digit l.base) l.initial.reader;
}

abbrev pub decreases-loop-c : goal.decreases-loop-c
decreases-loop-c l = length l.reader
