use Rattle.std.proofs.Common.{◌≡◌, length}
use Rattle.asm_module.specs.Operands.{two_by_two}
use Rattle.asm_module.proofs.ReadingLemmas.{onto}
use Rattle.asm_module.proofs.lists.two_by_two.Given as goal

abbrev pub invariant-loop-first : goal.invariant-loop-first
invariant-loop-first g l = onto l.pairs (two_by_two g.A.Reader.reads g.B.Reader.reads l.rest) ≡ two_by_two g.A.Reader.reads g.B.Reader.reads l.terms

abbrev pub decreases-loop-first : goal.decreases-loop-first
decreases-loop-first g l = length l.rest
