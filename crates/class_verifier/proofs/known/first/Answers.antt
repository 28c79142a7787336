use Rattle.std.proofs.Common.{◌∙◌}
use Rattle.class_verifier.proofs.ClassNames.{process}
use Rattle.class_verifier.proofs.FirstFrame.{first_is}
use Rattle.class_verifier.proofs.known.first.Goals as goal

pub returns : goal.returns
returns c = first_is c.new-locals.result c.push.new.self c.push-2.new.self c.new.result c.in_ok-make.field-0 c.new-locals.ensures c.in_ok-push.ensures.ok c.in_ok-push-2.ensures.ok c.new.ensures (c.in_ok-make.ensures ∙ process)
