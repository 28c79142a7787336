use Rattle.std.proofs.Common.{sym, ◌∙◌}
use Rattle.proc_sched.proofs.Rises.{look, look-ok, look-err, with-found, with-gap}
use Rattle.proc_sched.proofs.numbers.add.Goals as goal

pub returns-in-Ok : goal.returns-in-Ok
returns-in-Ok c =
    let found = look-ok c.args.number c.args.numbers.now.items c.binary_search.result c.in-Ok.field-0 (look c.args.number c.args.numbers.now.items c.deref.result.now c.binary_search.result c.deref.ensures.value c.binary_search.ensures.position c.requires.rising) c.in-Ok.is in
    sym (with-found c.args.number 0 c.args.numbers.now.items c.in-Ok.field-0 c.requires.rising found.0 found.1)

pub returns-in_ok-insert-in-Err : goal.returns-in_ok-insert-in-Err
returns-in_ok-insert-in-Err c =
    let gap = look-err c.args.number c.args.numbers.now.items c.binary_search.result c.in-Err.place (look c.args.number c.args.numbers.now.items c.deref.result.now c.binary_search.result c.deref.ensures.value c.binary_search.ensures.position c.requires.rising) c.in-Err.is in
    c.in_ok-insert-in-Err.ensures.items ∙ sym (with-gap c.args.number c.args.numbers.now.items c.in-Err.place gap)
