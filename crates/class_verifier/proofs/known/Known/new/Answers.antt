use Rattle.std.proofs.Common.{◌∙◌}
use Rattle.class_verifier.proofs.ClassNames.{string}
use Rattle.class_verifier.proofs.known.Known.new.Goals as goal

pub invariant_of-result : goal.invariant_of-result
invariant_of-result c = record { named = c.in_ok-string.ensures ∙ string; begins = c.in_ok-first.ensures }
