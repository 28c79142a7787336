use Rattle.erjang_compile.proofs.Mapped.{maps-in-range, heavy-so, fits-more, all-functions-fit}
use Rattle.erjang_compile.proofs.sizes.first_heavy.Goals as goal

pub weight-requires : goal.weight-requires
weight-requires c = record { func_in_range = maps-in-range c.args.«module».now c.args.maps.now c.loop-func.func c.requires c.loop-func-test.true }

pub returns-then-weight-gt-MOST_OF_FUNCTION : goal.returns-then-weight-gt-MOST_OF_FUNCTION
returns-then-weight-gt-MOST_OF_FUNCTION c =
    heavy-so c.args.«module».now c.args.maps.now c.loop-func.func c.in_ok-weight.weight c.index-maps-func.result c.requires c.loop-func-test.true c.index-maps-func.is c.loop-func.invariant
    c.in_ok-weight.ensures c.if-weight-gt-MOST_OF_FUNCTION.true

pub loop-func-preserved : goal.loop-func-preserved
loop-func-preserved c =
    fits-more c.args.«module».now c.args.maps.now c.loop-func.func c.in_ok-weight.weight c.index-maps-func.result c.requires c.loop-func-test.true c.index-maps-func.is c.loop-func.invariant
    c.in_ok-weight.ensures c.if-weight-gt-MOST_OF_FUNCTION.false

pub returns : goal.returns
returns c = all-functions-fit c.args.«module».now c.args.maps.now c.loop-func.func c.requires c.loop-func-test.false c.loop-func.invariant
