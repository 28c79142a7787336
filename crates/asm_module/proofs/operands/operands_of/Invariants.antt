use Rattle.std.proofs.Common.{◌≡◌, drop}
use Rattle.asm_module.specs.Operands as spec
use Rattle.asm_module.proofs.ReadingLemmas.{onto}
use Rattle.asm_module.proofs.operands.operands_of.Given as goal

abbrev pub invariant-loop-place : goal.invariant-loop-place
invariant-loop-place l = onto l.operands (spec.operands_of l.number (drop l.place-index l.places) l.rest) ≡ spec.operands_of l.number l.places l.terms
