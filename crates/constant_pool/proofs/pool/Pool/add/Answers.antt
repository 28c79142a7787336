use Rattle.std.proofs.Common.{ap, rules, ◌∙◌}
use Rattle.constant_pool.specs.Pool.{place_of}
use Rattle.constant_pool.proofs.Found.{pool_push, indexed_new}
use Rattle.constant_pool.proofs.pool.Pool.add.Goals as goal

pub invariant_of-self-2 : goal.invariant_of-self-2
invariant_of-self-2 c = (pool_push c.self.inside.places.entries c.insert.new.places.entries c.args.entry c.self.inside.next c.in_ok-behind.behind c.self.invariant c.in_ok-insert.ensures.ok
    (ap (place_of c.args.entry) c.self.view_is ∙ c.requires) c.in_ok-behind.ensures).1

pub returns : goal.returns
returns c = indexed_new c.args.self.now c.self.inside.places.entries c.insert.new.places.entries c.args.entry c.self.inside.next c.in_ok-behind.behind c.self.view_is c.self.invariant c.in_ok-insert.ensures.ok
    c.requires c.in_ok-behind.ensures (search rules)
