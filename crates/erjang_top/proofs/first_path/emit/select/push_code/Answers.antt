use Rattle.std.proofs.Common.{map}
use Rattle.erjang_top.specs.first_path.Opcode.{opcode}
use Rattle.erjang_top.proofs.FirstPath.Plain.{body_plain}
use Rattle.erjang_top.proofs.first_path.emit.select.push_code.Goals as goal

pub push_body-requires-clause-thin : goal.push_body-requires-clause-thin
push_body-requires-clause-thin c = body_plain c.args.function.now (map opcode c.body.result.now) c.requires.thin c.body.ensures
