use Rattle.std.proofs.Common.{map, sym, ap, ◌∙◌}
use Rattle.std.specs.Prelude.{option_map}
use Rattle.std.specs.List.{find}
use Rattle.beam_code.specs.Code.{function_code, opcode}
use Rattle.erjang_compile.specs.Accepted.{is_long, literals_in_code}
use Rattle.erjang_compile.specs.Answers.{as_large}
use Rattle.erjang_compile.proofs.Left.{left-more}
use Rattle.erjang_compile.proofs.Longest.{function-here, function-later}
use Rattle.erjang_compile.proofs.literals.first_long.Goals as goal

pub returns-in-Some : goal.returns-in-Some
returns-in-Some c =
    let e = left-more function_code c.args.functions.now c.loop-func.func c.index-functions-func.result c.loop-func-test.true c.index-functions-func.is in
    function-here c.loop-func.func _ _ _ (map function_code c.args.functions.now) e c.loop-func.invariant c.in-Some.large
    (sym c.in-Some.is ∙ c.in_ok-large.ensures ∙ ap (λ code. option_map as_large (find is_long (literals_in_code c.loop-func.func 0 (map opcode code)))) c.as_slice.ensures)

pub loop-func-preserved : goal.loop-func-preserved
loop-func-preserved c =
    let e = left-more function_code c.args.functions.now c.loop-func.func c.index-functions-func.result c.loop-func-test.true c.index-functions-func.is in
    function-later c.loop-func.func _ _ _ (map function_code c.args.functions.now) e c.loop-func.invariant
    (sym c.in_default.is ∙ c.in_ok-large.ensures ∙ ap (λ code. option_map as_large (find is_long (literals_in_code c.loop-func.func 0 (map opcode code)))) c.as_slice.ensures)
