use Rattle.std.proofs.Common.{rules, arith}
use Rattle.class_file.proofs.OpsRead.{begun, goes_to, shorter}
use Rattle.class_file.proofs.instructions.ops.Goals as goal

pub loop-source-init : goal.loop-source-init
loop-source-init c = begun c.args.pool.now c.args.start c.args.code.now c.new-ops.result c.new-source.result c.new-ops.ensures c.new-source.ensures

pub loop-source-smaller : goal.loop-source-smaller
loop-source-smaller c = shorter c.args.pool.now c.loop-source.source.at c.loop-source.source.rest c.in-Ok.op c.op.new.source.at c.op.new.source.rest c.in-Ok.ensures

pub loop-source-preserved : goal.loop-source-preserved
loop-source-preserved c = goes_to c.args.pool.now c.args.start _ c.loop-source.ops c.push.new.self c.loop-source.source.at _ c.loop-source.source.rest _ c.in-Ok.op c.op.new.source.at c.op.new.source.rest
    c.loop-source.invariant c.at-pc.ensures.at c.in_ok-push-in-Ok.ensures.ok (search (rules, arith)) c.in-Ok.ensures
