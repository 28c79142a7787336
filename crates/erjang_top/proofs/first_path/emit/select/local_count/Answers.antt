use Rattle.std.proofs.Common.{map}
use Rattle.erjang_top.specs.first_path.Opcode.{opcode}
use Rattle.erjang_top.proofs.FirstPath.Plain.{body_plain}
use Rattle.erjang_top.proofs.first_path.emit.select.local_count.Goals as goal

pub registers-requires : goal.registers-requires
registers-requires c = body_plain c.args.function.now (map opcode c.body.result.now) c.requires c.body.ensures
