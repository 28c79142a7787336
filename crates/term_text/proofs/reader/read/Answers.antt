use Rattle.std.proofs.Common.{◌≡◌, ◌∷◌, [], List, subst}
use Rattle.ej_term.specs.declared.asm_term.AsmTerm.{AsmTerm}
use Rattle.term_text.proofs.Reading.{several-no-print}
use Rattle.term_text.proofs.reader.read.Goals as goal

pub returns-clause-reads : goal.returns-clause-reads
returns-clause-reads c = several-no-print c.args.bytes.now c.in_ok-forms.forms.items c.in_ok-forms.ensures
    (subst (λ (forms : List AsmTerm). (form : AsmTerm) → forms ≡ form ∷ [] → ⊥) c.as_slice.ensures.value c.in-None.ensures)
