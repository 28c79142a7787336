use Rattle.std.proofs.Common.{◌≡◌, true, ap, max, ◌∙◌, arith}
use Rattle.erjang_top.specs.first_path.Opcode.{opcode}
use Rattle.erjang_top.specs.first_path.Accepted.{is_thin_opcode}
use Rattle.erjang_top.proofs.FirstPath.Appends.{step_all}
use Rattle.erjang_top.proofs.FirstPath.SelectSteps.{registers-step}
use Rattle.erjang_top.proofs.first_path.emit.select.registers.Goals as goal

pub written_register-requires : goal.written_register-requires
written_register-requires c = (step_all (λ o. is_thin_opcode o ≡ true) opcode c.args.code.now c.loop-instr.instr-index c.instr-item.result c.loop-instr-test.true c.instr-item.is c.loop-instr.invariant.rest_thin).here

pub loop-instr-preserved : goal.loop-instr-preserved
loop-instr-preserved c = record {
  small = omega (arith, c.max-count.ensures, c.written_register.ensures.small, c.loop-instr.invariant.small);
  rest_thin = (step_all (λ o. is_thin_opcode o ≡ true) opcode c.args.code.now c.loop-instr.instr-index c.instr-item.result c.loop-instr-test.true c.instr-item.is c.loop-instr.invariant.rest_thin).rest;
  counted = registers-step c.args.code.now c.loop-instr.instr-index c.instr-item.result c.loop-instr.count _ c.max-count.result c.loop-instr-test.true c.instr-item.is c.loop-instr.invariant.counted (c.max-count.ensures ∙ ap (λ w. max w c.loop-instr.count) c.written_register.ensures.is);
}
