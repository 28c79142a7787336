use Rattle.std.proofs.Common.{◌≡◌, option_and_then, length}
use Rattle.asm_terms.specs.TermReader.{run, finish}
use Rattle.asm_terms.proofs.terms.term_of.Given as goal

abbrev pub invariant-loop-token : goal.invariant-loop-token
invariant-loop-token l = option_and_then finish (run l.rest l.reader) ≡ option_and_then finish (run l.initial.rest l.initial.reader)

abbrev pub decreases-loop-token : goal.decreases-loop-token
decreases-loop-token l = length l.rest
