use Rattle.std.proofs.Common.{◌≡◌, true, map, length, subst, sym, ap, ◌∙◌, arith}
use Rattle.std.specs.List.{AllByRecursion}
use Rattle.erjang_top.specs.first_path.Accepted.{is_thin_function}
use Rattle.erjang_top.specs.first_path.ModuleClass.{constants, first_name}
use Rattle.erjang_top.specs.first_path.SeenValues.{seen_value}
use Rattle.erjang_top.proofs.FirstPath.Appends.{next_all}
use Rattle.erjang_top.proofs.FirstPath.ClassSteps.{functions-init, fits-init, contents-step, functions-step, fits-with, written-as}
use Rattle.erjang_top.proofs.FirstPath.Plain.{functions_plain}
use Rattle.erjang_top.proofs.FirstPath.PoolSteps.{values-fit, pool-length}
use Rattle.erjang_top.proofs.first_path.emit.function.push_functions.Goals as goal

pub first_name-name-requires : goal.first_name-name-requires
first_name-name-requires c = values-fit c.args.source.now c.args.values.now.keys c.requires.fits.entry_count c.requires.values

pub loop-function-init : goal.loop-function-init
loop-function-init c =
    let m = c.args.source.now in
    let name = c.first_name-name.ensures ∙ ap first_name c.requires.values in
    record {
      name_is = omega (arith, name);
      rest_thin = subst (AllByRecursion (λ f. is_thin_function f ≡ true)) (sym c.as_slice-functions.ensures) (functions_plain m c.requires.fits.plain);
      rest_fits = fits-init m c.first_name-name.result c.as_slice-functions.result.now name c.as_slice-functions.ensures c.requires.fits;
      written = functions-init m c.args.out.now.items c.push_u2.new.out.items c.first_name-name.result c.as_slice-functions.result.now name c.as_slice-functions.ensures c.in_ok-push_u2.ensures;
    }

pub push_function-requires-clause-thin : goal.push_function-requires-clause-thin
push_function-requires-clause-thin c =
    (next_all (λ f. is_thin_function f ≡ true) c.as_slice-functions.result.now c.loop-function.function-index c.function-item.result c.loop-function-test.true c.function-item.is c.loop-function.invariant.rest_thin).0

pub push_function-requires-clause-count : goal.push_function-requires-clause-count
push_function-requires-clause-count c = values-fit c.args.source.now c.args.values.now.keys c.requires.fits.entry_count c.requires.values

pub push_function-requires-clause-content : goal.push_function-requires-clause-content
push_function-requires-clause-content c =
    let m = c.args.source.now in
    let step = contents-step m (constants m) c.loop-function.name c.as_slice-functions.result.now c.loop-function.function-index c.function-item.result c.loop-function-test.true c.function-item.is c.loop-function.invariant.rest_fits in
    fits-with m (map seen_value c.args.values.now.keys) c.loop-function.name c.method_flags-flags.result c.function-item.result c.requires.values step.here

pub overflow_add-name : goal.overflow_add-name
overflow_add-name c =
    let functions = ap length c.as_slice-functions.ensures in
    omega (arith, functions, pool-length c.args.source.now, c.requires.fits.entry_count, c.loop-function.invariant.name_is, c.loop-function-test.true)

pub loop-function-preserved : goal.loop-function-preserved
loop-function-preserved c =
    let m = c.args.source.now in
    let fs = c.as_slice-functions.result.now in
    let i = c.loop-function.function-index in
    let f = c.function-item.result in
    let exported = c.is_exported.ensures m c.in_ok-exports.ensures in
    let written = written-as m (map seen_value c.args.values.now.keys) c.loop-function.name c.method_flags-flags.result f c.is_exported.result _ _ c.requires.values exported c.method_flags-flags.ensures c.in_ok-push_function.ensures in
    record {
      name_is = omega (arith, c.loop-function.invariant.name_is);
      rest_thin = (next_all (λ f. is_thin_function f ≡ true) fs i f c.loop-function-test.true c.function-item.is c.loop-function.invariant.rest_thin).1;
      rest_fits = (contents-step m (constants m) c.loop-function.name fs i f c.loop-function-test.true c.function-item.is c.loop-function.invariant.rest_fits).rest;
      written = functions-step m (constants m) c.loop-function.name fs i f _ c.loop-function.out.items c.push_function.new.out.items c.loop-function-test.true c.function-item.is c.loop-function.invariant.written written;
    }
