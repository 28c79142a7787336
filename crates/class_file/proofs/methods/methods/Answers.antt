use Rattle.std.proofs.Common.{rules, arith, map}
use Rattle.class_file.proofs.MethodsRead.{stops}
use Rattle.class_file.proofs.methods.methods.Goals as goal

pub returns-in-Err : goal.returns-in-Err
returns-in-Err c = stops c.args.pool.now c.loop-left.methods (map (λ k. k.now) c.loop-left.names.keys) c.loop-left.left c.loop-left.source.at c.loop-left.source.rest c.in-Err.fault _
    (search (rules, arith)) c.loop-left.invariant c.in-Err.ensures.read
