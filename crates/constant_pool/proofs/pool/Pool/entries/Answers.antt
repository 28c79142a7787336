use Rattle.std.proofs.Common.{reverse}
use Rattle.constant_pool.proofs.Found.{one_listed}
use Rattle.constant_pool.proofs.pool.Pool.entries.Goals as goal

pub loop-entry-preserved : goal.loop-entry-preserved
loop-entry-preserved c = one_listed c.loop-entry.places.entries c.pop.new.self.entries c.in-Some.entry _ (reverse c.loop-entry.entries.items) (reverse c.push_reversed.new.entries.items) _
    c.in-Some.ensures.entries c.in_ok-push_reversed.ensures c.loop-entry.invariant
