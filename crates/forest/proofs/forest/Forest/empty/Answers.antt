use Rattle.forest.proofs.Keeping.{empty, empty-held}
use Rattle.forest.proofs.forest.Forest.empty.Goals as goal

pub returns-clause-held : goal.returns-clause-held
returns-clause-held g c = empty-held c.args.self.now c.empty.result c.empty.ensures

pub returns-clause-list : goal.returns-clause-list
returns-clause-list g c = empty c.args.self.now c.empty.result c.empty.ensures
