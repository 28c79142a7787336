use Rattle.std.proofs.Common.{sym, ap, ◌∙◌}
use Rattle.beam_code.specs.Code.{opcode}
use Rattle.beam_code.specs.Labels.{break_at, defined_by, with_label}
use Rattle.label_check.specs.Seen.{seen_scope}
use Rattle.label_check.proofs.Left.{left-more}
use Rattle.label_check.proofs.Breaks.{walked-more, walked-stop, tells-same}
use Rattle.label_check.proofs.walk.check_code.Goals as goal

pub returns-in-Err-clause-told : goal.returns-in-Err-clause-told
returns-in-Err-clause-told c =
    walked-stop _ _ _ _ _ _ _ _ _ (left-more opcode c.args.code.now c.loop-index.index c.index-code-index.result c.loop-index-test.true c.index-code-index.is) c.loop-index.invariant c.in-Err.fault
    (tells-same c.in-Err.fault (ap (break_at (seen_scope c.args.scope.now) c.args.func c.loop-index.index c.loop-index.before.keys) c.opcode.ensures) c.in-Err.ensures.told)

pub loop-index-preserved : goal.loop-index-preserved
loop-index-preserved c =
    walked-more _ _ _ _ _ _ _ _ _ (left-more opcode c.args.code.now c.loop-index.index c.index-code-index.result c.loop-index-test.true c.index-code-index.is) c.loop-index.invariant _
    (ap (break_at (seen_scope c.args.scope.now) c.args.func c.loop-index.index c.loop-index.before.keys) (sym c.opcode.ensures) ∙ c.in_default.ensures.told)
    (c.in_default.ensures.added ∙ ap (λ o. with_label c.loop-index.before.keys (defined_by o)) c.opcode.ensures)
