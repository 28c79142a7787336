use Rattle.std.proofs.Common.{nat_eq, map, subst, sym, ap, ◌∙◌}
use Rattle.indexmap.specs.IndexMap.{get}
use Rattle.indexmap.specs.IndexSet.{contains}
use Rattle.beam_code.specs.Code.{opcode, function_code}
use Rattle.label_check.specs.Told.{Tells}
use Rattle.label_check.proofs.Breaks.{begun-well}
use Rattle.label_check.proofs.walk.check_function.Goals as goal

pub returns-clause-told : goal.returns-clause-told
returns-clause-told c =
    subst (Tells c.check_code.result)
    (begun-well c.args.owner.now (record { is_own = contains nat_eq c.in_ok-own.own; arity = get nat_eq c.args.entries.now }) c.args.func c.args.before.now.keys
    (function_code c.args.function.now) (map opcode c.as_slice-code.result.now) (sym c.begins_well.ensures ∙ c.if-not-begins_well.false)
    (ap (map opcode) c.as_slice-code.ensures) c.in_ok-own.ensures)
    c.check_code.ensures.told
