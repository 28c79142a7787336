use Rattle.std.proofs.Common.{sym}
use Rattle.asm_module.proofs.OperandLemmas.{short}
use Rattle.asm_module.proofs.operands.operands_of.Goals as goal

pub returns-in_default : goal.returns-in_default
returns-in_default c = sym (short c.args.number c.loop-place.place-index c.loop-place.operands c.args.places.now c.loop-place.rest.now c.args.terms.now c.loop-place-test.true c.in_default.ensures.cases c.loop-place.invariant)
