use Rattle.std.proofs.Common.{map, sym, ap, ◌∙◌}
use Rattle.beam_code.specs.Code.{opcode}
use Rattle.beam_code.specs.Good.{assignment_of}
use Rattle.slot_kinds.specs.Walked.{widens}
use Rattle.slot_kinds.proofs.Left.{left-more}
use Rattle.slot_kinds.proofs.Walking.{wide-here, wide-not-here}
use Rattle.slot_kinds.proofs.function.is_wide.Goals as goal

pub returns-then-widens : goal.returns-then-widens
returns-then-widens c =
    let e = left-more opcode c.args.code.now c.loop-instr.instr-index c.instr-item.result c.loop-instr-test.true c.instr-item.is in
    wide-here (assignment_of c.args.map.now) _ _ _ (map opcode c.args.code.now) e c.loop-instr.invariant
    (ap (widens (assignment_of c.args.map.now)) (sym c.opcode.ensures) ∙ sym c.widens.ensures ∙ c.if-widens.true)

pub loop-instr-preserved : goal.loop-instr-preserved
loop-instr-preserved c =
    let e = left-more opcode c.args.code.now c.loop-instr.instr-index c.instr-item.result c.loop-instr-test.true c.instr-item.is in
    wide-not-here (assignment_of c.args.map.now) _ _ _ (map opcode c.args.code.now) e c.loop-instr.invariant
    (ap (widens (assignment_of c.args.map.now)) (sym c.opcode.ensures) ∙ sym c.widens.ensures ∙ c.if-widens.false)
