use Rattle.std.proofs.Common.{◌≡◌, drop}
use Rattle.asm_module.specs.Terms.{each}
use Rattle.asm_module.proofs.ReadingLemmas.{onto}
use Rattle.asm_module.proofs.lists.each.Given as goal

abbrev pub invariant-loop-term : goal.invariant-loop-term
invariant-loop-term g l = onto l.all (each g.R.Reader.reads (drop l.term-index l.terms)) ≡ each g.R.Reader.reads l.terms
