use Rattle.std.proofs.Common.{◌∙◌}
use Rattle.class_file.proofs.Pushed.{method_spelled}
use Rattle.class_file.proofs.spelling.push_method.Goals as goal

pub returns : goal.returns
returns c = method_spelled c.args.method.now c.as_slice.result.now c.args.out.now.items c.push_parts.new.out.items (c.as_slice.ensures.value ∙ c.in_ok-content.ensures) c.in_ok-push_parts.ensures
