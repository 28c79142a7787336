use Rattle.std.proofs.Common.{length}
use Rattle.std.specs.Str.{chars}
use Rattle.asm_terms.proofs.FormsRead.{BeginsWith}
use Rattle.asm_terms.proofs.forms.forms_of.Given as goal

abbrev pub invariant-loop-reader : goal.invariant-loop-reader
invariant-loop-reader l = BeginsWith (chars l.text) l.forms.items l.reader

abbrev pub decreases-loop-reader : goal.decreases-loop-reader
decreases-loop-reader l = length l.reader
