use Rattle.std.proofs.Common.{nat_eq, map, subst}
use Rattle.indexmap.specs.IndexMap.{get}
use Rattle.beam_code.specs.Code.{function_code}
use Rattle.beam_code.specs.Labels.{arity_of}
use Rattle.label_check.specs.Told.{Tells}
use Rattle.label_check.proofs.Breaks.{same-entries}
use Rattle.label_check.proofs.walk.check_functions.Goals as goal

pub returns : goal.returns
returns c =
    let functions = map function_code c.args.functions.now in
    subst (Tells c.check_each.result)
    (same-entries c.args.owner.now (get nat_eq c.in_ok-entries.entries) (arity_of functions) functions c.in_ok-entries.ensures) c.check_each.ensures
