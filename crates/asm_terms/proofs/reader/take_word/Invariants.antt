use Rattle.std.proofs.Common.{◌≡◌, drop}
use Rattle.asm_terms.specs.Runs.{after}
use Rattle.asm_terms.proofs.reader.take_word.Given as goal

abbrev pub invariant-loop-c : goal.invariant-loop-c
invariant-loop-c l = after (drop l.c-index l.word) l.ahead ≡ after l.word l.reader
