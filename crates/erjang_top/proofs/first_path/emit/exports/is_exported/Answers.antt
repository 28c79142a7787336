use Rattle.std.proofs.Common.{◌∙◌}
use Rattle.beam_code.specs.Keys.{key_of}
use Rattle.erjang_top.proofs.FirstPath.ExportKeys.{contained}
use Rattle.erjang_top.proofs.first_path.emit.exports.is_exported.Goals as goal

pub returns : goal.returns
returns c = λ m h. c.contains.ensures ∙ contained (key_of c.args.function.now) c.args.exports.now.keys ∙ h (key_of c.args.function.now)
