use Rattle.std.proofs.Common.{◌≡◌, length}
use Rattle.asm_terms.specs.Tokens.{tokens_behind}
use Rattle.asm_terms.proofs.scan.form_tokens.Given as goal

abbrev pub invariant-tokens : goal.invariant-tokens
invariant-tokens l = tokens_behind l.tokens l.reader ≡ tokens_behind l.initial.tokens l.initial.reader

abbrev pub decreases-tokens : goal.decreases-tokens
decreases-tokens l = length l.reader
