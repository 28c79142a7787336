use Rattle.erjang_top.proofs.FirstPath.SelectSteps.{arguments-step}
use Rattle.erjang_top.proofs.first_path.emit.select.push_arguments.Goals as goal

pub loop-at-preserved : goal.loop-at-preserved
loop-at-preserved c = arguments-step c.loop-at.at c.args.count _ c.loop-at.code.items c.push_argument.new.code.items c.loop-at-test.true c.loop-at.invariant c.in_ok-push_argument.ensures
