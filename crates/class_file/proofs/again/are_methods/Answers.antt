use Rattle.std.proofs.Common.{map, rules, arith}
use Rattle.class_file.proofs.MethodsRead.{stops}
use Rattle.class_file.proofs.ReadAgain.{too_many, goes_on, goes_off, all_same, is_that, is_not_that}
use Rattle.class_file.proofs.again.are_methods.Goals as goal

pub returns-then-wanted-count : goal.returns-then-wanted-count
returns-then-wanted-count c = too_many c.args.pool.now c.args.count c.args.source.now.at c.args.source.now.rest c.args.wanted.now c.if-wanted-count.true

pub loop-other-preserved : goal.loop-other-preserved
loop-other-preserved c =
    goes_on c.args.pool.now c.args.wanted.now c.loop-other.other-index c.args.count c.in-Ok.method c.loop-other-test.true c.if-wanted-count.false
    (map (λ k. k.now) c.loop-other.names.keys) (map (λ k. k.now) c.method.new.names.keys) c.loop-other.source.at c.loop-other.source.rest c.method.new.source.at c.method.new.source.rest _
    c.in-Ok.ensures.named c.in-Ok.ensures.read (is_that _ _ _ _ _ c.loop-other-test.true c.other-item.is c.ne.ensures c.if-ne.false) c.loop-other.invariant

pub returns-then-ne : goal.returns-then-ne
returns-then-ne c =
    goes_off c.args.pool.now c.args.wanted.now c.loop-other.other-index c.args.count c.in-Ok.method c.loop-other-test.true c.if-wanted-count.false
    (map (λ k. k.now) c.loop-other.names.keys) c.loop-other.source.at c.loop-other.source.rest c.method.new.source.at c.method.new.source.rest _
    c.in-Ok.ensures.read (is_not_that _ _ _ _ _ c.loop-other-test.true c.other-item.is c.ne.ensures c.if-ne.true) c.loop-other.invariant

pub returns-in-Err : goal.returns-in-Err
returns-in-Err c = stops c.args.pool.now _ (map (λ k. k.now) c.loop-other.names.keys) _ c.loop-other.source.at c.loop-other.source.rest c.in-Err.fault _
    (search (rules, arith)) c.loop-other.invariant c.in-Err.ensures.read

pub returns : goal.returns
returns c = all_same c.args.pool.now c.args.wanted.now (map (λ k. k.now) c.loop-other.names.keys) c.loop-other.other-index c.args.count c.loop-other.source.at c.loop-other.source.rest _
    (search (rules, arith)) c.if-wanted-count.false c.loop-other.invariant
