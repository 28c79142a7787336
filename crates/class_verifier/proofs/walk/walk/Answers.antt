use Rattle.std.proofs.Common.{◌+◌, nat_eq, length, drop, sym, ap, ◌∙◌, arith}
use Rattle.jvm_code.specs.Verification.{fault_from}
use Rattle.class_verifier.specs.Told.{come}
use Rattle.class_verifier.specs.Seen.{state_seen}
use Rattle.class_verifier.proofs.Left.{left-list}
use Rattle.class_verifier.proofs.Walking.{at_end, walked_stop, walked_more}
use Rattle.class_verifier.proofs.walk.walk.Goals as goal

pub returns-in-Err : goal.returns-in-Err
returns-in-Err c =
    let code = c.as_slice-code.result.now in
    let at = c.loop-index.index in
    walked_stop c.args.scope.now c.loop-index.comes (nat_eq (at + 1) (length code)) (state_seen c.loop-index.state) (state_seen c.step.new.state) c.index-code-index.result.0 c.index-code-index.result.1
    (drop (at + 1) code) (drop at code) _
    (left-list code at c.index-code-index.result c.loop-index-test.true c.index-code-index.is)
    (sym (at_end code (at + 1) (omega (arith, c.loop-index-test.true))))
    c.in-Err.fault c.in-Err.ensures c.loop-index.invariant

pub loop-index-preserved : goal.loop-index-preserved
loop-index-preserved c =
    let code = c.as_slice-code.result.now in
    let at = c.loop-index.index in
    ap (λ comes. fault_from c.args.scope.now.class.now c.args.scope.now.method.now c.args.scope.now.frames (drop (at + 1) code) (come comes (state_seen c.step.new.state))) c.goes_on-comes.ensures
    ∙ walked_more c.args.scope.now c.loop-index.comes (nat_eq (at + 1) (length code)) (state_seen c.loop-index.state) (state_seen c.step.new.state) c.index-code-index.result.0 c.index-code-index.result.1
    (drop (at + 1) code) (drop at code) _
    (left-list code at c.index-code-index.result c.loop-index-test.true c.index-code-index.is)
    (sym (at_end code (at + 1) (omega (arith, c.loop-index-test.true))))
    c.in_default.ensures.0 c.in_default.ensures.1 c.loop-index.invariant
