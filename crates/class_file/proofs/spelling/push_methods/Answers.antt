use Rattle.jvm_code.specs.Spelling.{method_bytes}
use Rattle.class_file.proofs.Pushed.{pushed}
use Rattle.class_file.proofs.spelling.push_methods.Goals as goal

pub loop-method-preserved : goal.loop-method-preserved
loop-method-preserved c =
    pushed method_bytes c.args.out.now.items c.loop-method.out.items c.push_method.new.out.items c.args.methods.now c.loop-method.method-index c.method-item.result
    c.loop-method-test.true c.method-item.is c.loop-method.invariant c.in_ok-push_method.ensures
