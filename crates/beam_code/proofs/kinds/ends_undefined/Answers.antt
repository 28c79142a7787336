use Rattle.beam_code.proofs.KindLists.{none-behind}
use Rattle.beam_code.proofs.kinds.ends_undefined.Goals as goal

pub returns-in-None : goal.returns-in-None
returns-in-None c = none-behind c.args.kinds.now c.len.result c.len.ensures c.in-None.ensures.value
