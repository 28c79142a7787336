use Rattle.std.proofs.Common.{◌∙◌}
use Rattle.asm_module.proofs.KeySets.{has-key}
use Rattle.asm_module.specs.Seen.{key_seen}
use Rattle.asm_module.proofs.header.has_function.Goals as goal

pub returns : goal.returns
returns c = c.contains.ensures ∙ has-key c.args.functions.now.keys (key_seen c.args.key.now)
