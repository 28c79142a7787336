use Rattle.std.proofs.Common.{◌≡◌, true, subst, sym, ap, ◌+◌, length, ◌∙◌, arith}
use Rattle.std.specs.List.{AllByRecursion}
use Rattle.erjang_top.specs.first_path.Accepted.{is_thin_function}
use Rattle.erjang_top.specs.first_path.ModuleClass.{constants, first_name}
use Rattle.erjang_top.proofs.FirstPath.Plain.{functions_plain, class_name_short}
use Rattle.erjang_top.proofs.FirstPath.ThinValues.{IsThinValue, thin-module}
use Rattle.erjang_top.proofs.FirstPath.PoolSteps.{values-fit, pool-length, pool-written}
use Rattle.erjang_top.proofs.first_path.emit.pool.push_pool.Goals as goal

pub first_name-requires : goal.first_name-requires
first_name-requires c = values-fit c.args.source.now c.args.values.now.keys c.requires.fits.entry_count c.requires.values

pub overflow_add-first_name : goal.overflow_add-first_name
overflow_add-first_name c =
    let names = c.first_name.ensures ∙ ap first_name c.requires.values in
    let functions = ap length c.as_slice-functions.ensures in
    omega (arith, names, functions, pool-length c.args.source.now, c.requires.fits.entry_count)

pub push_fixed-requires : goal.push_fixed-requires
push_fixed-requires c = class_name_short c.args.source.now c.deref.result.now c.requires.fits.plain (c.deref.ensures.value ∙ c.in_ok-class.ensures)

pub push_values-requires-clause-thin : goal.push_values-requires-clause-thin
push_values-requires-clause-thin c = subst (AllByRecursion IsThinValue) (sym c.requires.values) (thin-module c.args.source.now c.requires.fits.plain).values

pub push_names-requires : goal.push_names-requires
push_names-requires c = subst (AllByRecursion (λ f. is_thin_function f ≡ true)) (sym c.as_slice-functions.ensures) (functions_plain c.args.source.now c.requires.fits.plain)

pub returns : goal.returns
returns c =
    let names = c.first_name.ensures ∙ ap first_name c.requires.values in
    let count = ap (λ n. n + length c.as_slice-functions.result.now) names ∙ ap (λ n. first_name (constants c.args.source.now) + n) (ap length c.as_slice-functions.ensures) in
    pool-written c.args.source.now c.push_names.result c.args.out.now.items c.push_u2.new.out.items c.push_fixed.new.out.items c.push_values.new.out.items c.push_names.new.out.items c.args.values.now.keys c.as_slice-functions.result.now c.deref.result.now (c.first_name.result + length c.as_slice-functions.result.now)
    count c.requires.values c.as_slice-functions.ensures (c.deref.ensures.value ∙ c.in_ok-class.ensures)
    c.in_ok-push_u2.ensures c.in_ok-push_fixed.ensures c.in_ok-push_values.ensures c.push_names.ensures
