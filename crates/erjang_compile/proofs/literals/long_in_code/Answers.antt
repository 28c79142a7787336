use Rattle.std.proofs.Common.{map, sym, ap, ◌∙◌}
use Rattle.beam_code.specs.Code.{opcode}
use Rattle.beam_code.specs.Pool.{sources_in}
use Rattle.erjang_compile.specs.Answers.{first_over}
use Rattle.erjang_compile.proofs.Left.{left-more}
use Rattle.erjang_compile.proofs.Longest.{code-here, code-later}
use Rattle.erjang_compile.proofs.literals.long_in_code.Goals as goal

pub returns-in-Some : goal.returns-in-Some
returns-in-Some c =
    let e = left-more opcode c.args.code.now c.loop-index.index c.index-code-index.result c.loop-index-test.true c.index-code-index.is in
    code-here c.args.func c.loop-index.index _ _ _ (map opcode c.args.code.now) e c.loop-index.invariant c.in-Some.bytes
    (sym c.in-Some.is ∙ c.in_ok-bytes.ensures ∙ ap (λ o. first_over (sources_in o)) c.opcode.ensures)

pub loop-index-preserved : goal.loop-index-preserved
loop-index-preserved c =
    let e = left-more opcode c.args.code.now c.loop-index.index c.index-code-index.result c.loop-index-test.true c.index-code-index.is in
    code-later c.args.func c.loop-index.index _ _ _ (map opcode c.args.code.now) e c.loop-index.invariant
    (sym c.in_default.is ∙ c.in_ok-bytes.ensures ∙ ap (λ o. first_over (sources_in o)) c.opcode.ensures)
