use Rattle.std.proofs.Common.{◌≡◌, drop}
use Rattle.std.specs.List.{list_any}
use Rattle.ej_term.specs.AsmValue.{has_opaque, pair_opaque}
use Rattle.ej_term.proofs.asm_term.+has_opaque.Given as goal

abbrev pub invariant-any_opaque-loop-term : goal.invariant-any_opaque-loop-term
invariant-any_opaque-loop-term l = list_any has_opaque (drop l.term-index l.terms) ≡ list_any has_opaque l.terms

abbrev pub invariant-any_pair_opaque-loop-key : goal.invariant-any_pair_opaque-loop-key
invariant-any_pair_opaque-loop-key l = list_any pair_opaque (drop l.key-index l.pairs) ≡ list_any pair_opaque l.pairs
