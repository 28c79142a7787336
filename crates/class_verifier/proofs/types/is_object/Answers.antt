use Rattle.std.proofs.Common.{◌∙◌}
use Rattle.jvm_code.proofs.TextEq.{same_object}
use Rattle.class_verifier.proofs.types.is_object.Goals as goal

pub returns : goal.returns
returns c = c.eq.ensures ∙ same_object c.as_str.result.now c.args.name.now c.as_str.ensures.characters c.as_str.ensures.bytes
