use Rattle.std.proofs.Common.{◌≡◌, length}
use Rattle.asm_terms.specs.Quotes.{quoted_behind}
use Rattle.asm_terms.proofs.quote.quoted.Given as goal

abbrev pub invariant-loop-c : goal.invariant-loop-c
invariant-loop-c l = quoted_behind l.quote l.done l.reader ≡ quoted_behind l.quote l.initial.done l.initial.reader

abbrev pub decreases-loop-c : goal.decreases-loop-c
decreases-loop-c l = length l.reader
