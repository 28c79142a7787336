use Rattle.std.proofs.Common.{◌+◌, drop}
use Rattle.class_verifier.specs.Checked.{fault_of}
use Rattle.class_verifier.proofs.Checking.{gone_stop, gone_more}
use Rattle.class_verifier.proofs.Left.{left-list}
use Rattle.class_verifier.proofs.check.check_methods.Goals as goal

pub returns-in-Err : goal.returns-in-Err
returns-in-Err c =
    let methods = c.as_slice-method-items.result.now in
    let at = c.loop-number.number in
    gone_stop c.args.class.now at c.method-item.result (drop (at + 1) methods) (drop at methods) c.args.class.now.methods (left-list methods at c.method-item.result c.loop-number-test.true c.method-item.is)
    c.loop-number.invariant (fault_of c.in-Err.fault) c.in-Err.ensures

pub loop-number-preserved : goal.loop-number-preserved
loop-number-preserved c =
    let methods = c.as_slice-method-items.result.now in
    let at = c.loop-number.number in
    gone_more c.args.class.now at c.method-item.result (drop (at + 1) methods) (drop at methods) c.args.class.now.methods (left-list methods at c.method-item.result c.loop-number-test.true c.method-item.is)
    c.loop-number.invariant c.in_default.ensures
