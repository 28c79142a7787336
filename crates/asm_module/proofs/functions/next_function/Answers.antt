use Rattle.std.proofs.Common.{sym, ap, ap₂, ◌∙◌, length}
use Rattle.asm_module.specs.Instructions.{instruction}
use Rattle.asm_module.proofs.FunctionLemmas.{instruction-step, instruction-fails, function-step, function-fails}
use Rattle.asm_module.proofs.functions.next_function.Goals as goal

pub returns-in-Ok-clause-read : goal.returns-in-Ok-clause-read
returns-in-Ok-clause-read c forms =
    function-step _ _ c.args.whole.now c.push.new.self c.args.last c.in-Ok.next c.args.form c.args.term.now forms (sym c.is_function.ensures ∙ c.if-is_function.true)
    c.in-Ok.ensures.function (ap length c.in-Ok.ensures.empty) c.in_ok-push.ensures.ok c.in-Ok.ensures.keys

pub returns-in-Err-clause-refused : goal.returns-in-Err-clause-refused
returns-in-Err-clause-refused c forms =
    function-fails _ c.args.whole.now c.args.last c.args.form c.args.term.now forms c.in-Err.fault (sym c.is_function.ensures ∙ c.if-is_function.true) c.in-Err.ensures.function

pub returns-in_ok-push-in-Ok-instruction-clause-read : goal.returns-in_ok-push-in-Ok-instruction-clause-read
returns-in_ok-push-in-Ok-instruction-clause-read c forms =
    instruction-step _ c.args.whole.now c.args.last c.args.form c.args.term.now forms c.in-Ok-instruction.instr c.push-in-Ok-instruction.new.self (sym c.is_function.ensures ∙ c.if-is_function.false)
    (sym (ap₂ (λ f i. instruction f i c.args.term.now) c.len.ensures c.len-2.ensures) ∙ c.in-Ok-instruction.ensures) c.in_ok-push-in-Ok-instruction.ensures.ok

pub returns-in-Err-instruction-clause-refused : goal.returns-in-Err-instruction-clause-refused
returns-in-Err-instruction-clause-refused c forms =
    instruction-fails _ c.args.whole.now c.args.last c.args.form _ _ c.args.term.now forms c.in-Err-instruction.fault (sym c.is_function.ensures ∙ c.if-is_function.false)
    c.len.ensures c.len-2.ensures c.in-Err-instruction.ensures
