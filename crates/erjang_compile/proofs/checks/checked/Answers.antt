use Rattle.erjang_compile.proofs.Reading.{broken}
use Rattle.erjang_compile.proofs.checks.checked.Goals as goal

pub returns-in_err-check : goal.returns-in_err-check
returns-in_err-check c =
    broken c.args.bytes.now c.in_ok-forms.forms.items c.as_slice.result.now c.in_ok-module.«module» c.in_err-check.field-0.0 c.from_residual-in_err-check.result
    c.in_ok-forms.ensures.reads c.as_slice.ensures.value c.in_ok-module.ensures c.in_err-check.ensures.first c.from_residual-in_err-check.ensures.1
