use Rattle.std.proofs.Common.{◌≡◌, drop}
use Rattle.std.specs.List.{list_any}
use Rattle.beam_code.specs.Flow.{is_tag}
use Rattle.slot_kinds.proofs.counts.has_tag.Given as goal

abbrev pub invariant-loop-kind : goal.invariant-loop-kind
invariant-loop-kind l = list_any is_tag (drop l.kind-index l.kinds) ≡ list_any is_tag l.kinds
