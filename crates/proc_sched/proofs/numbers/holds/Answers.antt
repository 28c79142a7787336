use Rattle.std.proofs.Common.{◌∙◌, refl}
use Rattle.proc_sched.proofs.Rises.{look, holds-searched}
use Rattle.proc_sched.proofs.numbers.holds.Goals as goal

pub returns : goal.returns
returns c = c.is_ok.ensures.value ∙ holds-searched c.args.number c.args.numbers.now c.binary_search.result (look c.args.number c.args.numbers.now c.args.numbers.now c.binary_search.result refl c.binary_search.ensures.position c.requires.rising)
