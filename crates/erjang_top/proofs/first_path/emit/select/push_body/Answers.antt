use Rattle.std.proofs.Common.{◌≡◌, true, map, sym, ◌∙◌}
use Rattle.erjang_top.specs.first_path.Opcode.{opcode}
use Rattle.erjang_top.specs.first_path.Accepted.{is_thin_opcode}
use Rattle.erjang_top.specs.first_path.SeenValues.{seen_value}
use Rattle.erjang_top.proofs.FirstPath.Appends.{step_all}
use Rattle.erjang_top.proofs.FirstPath.SelectSteps.{body-step, body-last}
use Rattle.erjang_top.proofs.first_path.emit.select.push_body.Goals as goal

pub push_instr-requires-clause-thin : goal.push_instr-requires-clause-thin
push_instr-requires-clause-thin c = (step_all (λ o. is_thin_opcode o ≡ true) opcode c.args.body.now c.loop-instr.instr-index c.instr-item.result c.loop-instr-test.true c.instr-item.is c.loop-instr.invariant.rest_thin).here

pub loop-instr-preserved : goal.loop-instr-preserved
loop-instr-preserved c = let t = c.if-not-branch.false in let f = c.in_ok-push_instr.ensures.goes_on in record {
  rest_thin = (step_all (λ o. is_thin_opcode o ≡ true) opcode c.args.body.now c.loop-instr.instr-index c.instr-item.result c.loop-instr-test.true c.instr-item.is c.loop-instr.invariant.rest_thin).rest;
  written = body-step (map seen_value c.args.values.now.keys) c.args.body.now c.loop-instr.instr-index c.instr-item.result _ c.loop-instr.code.items c.push_instr.new.code.items
      c.loop-instr-test.true c.instr-item.is (sym f ∙ t) c.loop-instr.invariant.written c.in_ok-push_instr.ensures.written;
}

pub returns-then-not-branch : goal.returns-then-not-branch
returns-then-not-branch c =
    let t = c.if-not-branch.true in
    let f = c.in_ok-push_instr.ensures.goes_on in
    body-last (map seen_value c.args.values.now.keys) c.args.body.now c.loop-instr.instr-index c.instr-item.result _ c.loop-instr.code.items c.push_instr.new.code.items
    c.loop-instr-test.true c.instr-item.is (sym f ∙ t) c.loop-instr.invariant.written c.in_ok-push_instr.ensures.written
