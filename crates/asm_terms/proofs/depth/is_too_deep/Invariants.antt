use Rattle.std.proofs.Common.{◌≡◌, ◌≤◌, drop}
use Rattle.asm_terms.specs.Grammar.{deep_behind, too_deep}
use Rattle.asm_terms.proofs.depth.is_too_deep.Given as goal

abbrev pub invariant-loop-token : goal.invariant-loop-token
invariant-loop-token l = record {
  same : deep_behind l.opened l.closed (drop l.token-index l.tokens) ≡ too_deep l.tokens;
  opened_within : l.opened ≤ l.token-index;
  closed_within : l.closed ≤ l.token-index;
}
