use Rattle.std.proofs.Common.{◌≡◌, drop}
use Rattle.beam_code.specs.Kinds.{first_tag}
use Rattle.beam_code.proofs.kinds.first_tag.Given as goal

abbrev pub invariant-loop-kind : goal.invariant-loop-kind
invariant-loop-kind l = first_tag (drop l.kind-index l.kinds) ≡ first_tag l.kinds
