use Rattle.std.proofs.Common.{Some, nat_eq, ap, sym, ◌∙◌}
use Rattle.std.specs.Cmp.Lexicographic.{pointwise}
use Rattle.ej_outside.proofs.Found.{given_here, given_later}
use Rattle.ej_outside.proofs.store.find_given.Goals as goal

pub returns-then-eq : goal.returns-then-eq
returns-then-eq c =
    let tested = ap (pointwise nat_eq c.args.name.now) (sym c.as_str.ensures.value) ∙ sym c.eq.ensures ∙ c.if-eq.true in
    ap Some c.as_slice.ensures.value
    ∙ sym (given_here c.args.name.now c.args.given.now c.loop-file.file-index c.file-item.result c.loop-file-test.true c.file-item.is tested)
    ∙ c.loop-file.invariant

pub loop-file-preserved : goal.loop-file-preserved
loop-file-preserved c =
    let tested = ap (pointwise nat_eq c.args.name.now) (sym c.as_str.ensures.value) ∙ sym c.eq.ensures ∙ c.if-eq.false in
    sym (given_later c.args.name.now c.args.given.now c.loop-file.file-index c.file-item.result c.loop-file-test.true c.file-item.is tested)
    ∙ c.loop-file.invariant
