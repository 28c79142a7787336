use Rattle.erjang_top.proofs.Said.{ends_line}
use Rattle.erjang_top.proofs.report.not_built.Goals as goal

pub returns : goal.returns
returns c = ends_line c.format.result c.args.func c.args.index c.format.ensures.ok
