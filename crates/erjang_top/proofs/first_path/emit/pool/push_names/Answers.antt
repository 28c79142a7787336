use Rattle.std.proofs.Common.{◌≡◌, true}
use Rattle.erjang_top.specs.first_path.Accepted.{is_thin_function}
use Rattle.erjang_top.specs.first_path.ClassFile.{constant_bytes}
use Rattle.erjang_top.specs.first_path.ModuleClass.{name_entry}
use Rattle.erjang_top.proofs.FirstPath.Appends.{step_written, next_all}
use Rattle.erjang_top.proofs.first_path.emit.pool.push_names.Goals as goal

pub push_name-requires : goal.push_name-requires
push_name-requires c =
    (next_all (λ f. is_thin_function f ≡ true) c.args.functions.now c.loop-function.function-index c.function-item.result c.loop-function-test.true c.function-item.is c.loop-function.invariant.rest_thin).0

pub loop-function-preserved : goal.loop-function-preserved
loop-function-preserved c = record {
  rest_thin = (next_all (λ f. is_thin_function f ≡ true) c.args.functions.now c.loop-function.function-index c.function-item.result c.loop-function-test.true c.function-item.is c.loop-function.invariant.rest_thin).1;
  written = step_written name_entry constant_bytes c.args.functions.now c.loop-function.function-index c.function-item.result _ _ _ c.loop-function-test.true c.function-item.is c.loop-function.invariant.written c.in_ok-push_name.ensures;
}
