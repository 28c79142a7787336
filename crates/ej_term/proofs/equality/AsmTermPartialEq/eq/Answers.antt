use Rattle.ej_term.specs.SameLaws.{told_same}
use Rattle.ej_term.proofs.equality.AsmTermPartialEq.eq.Goals as goal

pub returns : goal.returns
returns c = told_same c.args.self.now c.args.other.now c.is_same.result c.is_same.ensures
