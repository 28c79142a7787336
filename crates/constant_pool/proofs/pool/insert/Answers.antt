use Rattle.constant_pool.proofs.Found.{inserted}
use Rattle.constant_pool.proofs.pool.insert.Goals as goal

pub returns-clause-ok : goal.returns-clause-ok
returns-clause-ok c = inserted c.args.places.now c.insert.new.self.entries c.args.entry c.args.index c.requires.numbered c.requires.new c.in_ok-insert.ensures.entries
