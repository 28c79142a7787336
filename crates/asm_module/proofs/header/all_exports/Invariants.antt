use Rattle.std.proofs.Common.{◌≡◌, drop}
use Rattle.asm_module.specs.Terms.{each}
use Rattle.asm_module.specs.Modules.{export}
use Rattle.asm_module.specs.Seen.{is_held}
use Rattle.asm_module.proofs.ReadingLemmas.{onto}
use Rattle.asm_module.proofs.header.all_exports.Given as goal

abbrev pub invariant-loop-term : goal.invariant-loop-term
invariant-loop-term l = onto l.exports (each (export (is_held l.functions.keys)) (drop l.term-index l.terms)) ≡ each (export (is_held l.functions.keys)) l.terms
