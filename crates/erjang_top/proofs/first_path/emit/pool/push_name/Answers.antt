use Rattle.std.proofs.Common.{◌∙◌}
use Rattle.erjang_top.proofs.FirstPath.Plain.{method_name_short}
use Rattle.erjang_top.proofs.first_path.emit.pool.push_name.Goals as goal

pub push_constant-requires : goal.push_constant-requires
push_constant-requires c = method_name_short c.args.function.now c.deref.result.now c.requires (c.deref.ensures.value ∙ c.in_ok-name.ensures)
