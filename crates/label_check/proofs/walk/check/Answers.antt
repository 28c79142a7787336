use Rattle.std.proofs.Common.{[], map, subst, Ok, Err, Result}
use Rattle.std.specs.Prelude.{IfOk}
use Rattle.beam_code.specs.Code.{ModuleCode, function_code, module_code}
use Rattle.beam_code.specs.Labels.{arity_of, break_from, first_break, KeepsLabelRules}
use Rattle.beam_code.proofs.FirstBreak.{kept}
use Rattle.label_check.specs.declared.fault.LabelFault.{LabelFault}
use Rattle.label_check.specs.Told.{Tells}
use Rattle.label_check.proofs.walk.check.Goals as goal

keeps : (m : ModuleCode) (result : Result (Unit {0}) LabelFault) → Tells result (first_break m) → IfOk result (λ _. KeepsLabelRules m)
keeps m (Ok unit) e = kept m e
keeps m (Err fault) e = tt

pub returns-clause-kept : goal.returns-clause-kept
returns-clause-kept c =
    keeps (module_code c.args.«module».now) c.check_functions.result
    (subst (λ fs. Tells c.check_functions.result (break_from c.args.«module».now.name (arity_of (map function_code fs)) 0 [] (map function_code fs))) c.as_slice.ensures
    c.check_functions.ensures)
