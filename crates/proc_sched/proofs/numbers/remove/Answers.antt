use Rattle.std.proofs.Common.{sym, ◌∙◌}
use Rattle.proc_sched.proofs.Rises.{look, look-ok, look-err, without-found, without-gap}
use Rattle.proc_sched.proofs.numbers.remove.Goals as goal

pub returns-in-Ok : goal.returns-in-Ok
returns-in-Ok c =
    let found = look-ok c.args.number c.args.numbers.now.items c.binary_search.result c.in-Ok.place (look c.args.number c.args.numbers.now.items c.deref.result.now c.binary_search.result c.deref.ensures.value c.binary_search.ensures.position c.requires.rising) c.in-Ok.is in
    c.remove.ensures.items ∙ sym (without-found c.args.number 0 c.args.numbers.now.items c.in-Ok.place c.requires.rising found.0 found.1)

pub returns-in_default : goal.returns-in_default
returns-in_default c =
    sym (without-gap c.args.number c.args.numbers.now.items c.in_default.field-0
    (look-err c.args.number c.args.numbers.now.items c.binary_search.result c.in_default.field-0 (look c.args.number c.args.numbers.now.items c.deref.result.now c.binary_search.result c.deref.ensures.value c.binary_search.ensures.position c.requires.rising) c.in_default.is))
