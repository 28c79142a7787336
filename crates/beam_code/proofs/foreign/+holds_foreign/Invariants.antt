use Rattle.std.proofs.Common.{◌≡◌, drop}
use Rattle.std.specs.List.{list_any}
use Rattle.beam_code.specs.Foreign.{holds_foreign, pair_is_foreign}
use Rattle.beam_code.proofs.foreign.+holds_foreign.Given as goal

abbrev pub invariant-any_holds-loop-term : goal.invariant-any_holds-loop-term
invariant-any_holds-loop-term l = list_any holds_foreign (drop l.term-index l.terms) ≡ list_any holds_foreign l.terms

abbrev pub invariant-any_pair_holds-loop-key : goal.invariant-any_pair_holds-loop-key
invariant-any_pair_holds-loop-key l = list_any pair_is_foreign (drop l.key-index l.pairs) ≡ list_any pair_is_foreign l.pairs
