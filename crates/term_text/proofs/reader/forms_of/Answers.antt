use Rattle.std.proofs.Common.{List, ℕ, ◌∙◌, subst}
use Rattle.asm_terms.specs.Forms.{FirstFault, BadText, TooDeep}
use Rattle.term_text.proofs.Reading.{fault-no-print}
use Rattle.term_text.proofs.reader.forms_of.Goals as goal

pub returns-in-Err-BadText : goal.returns-in-Err-BadText
returns-in-Err-BadText c =
    let fault : FirstFault c.as_slice.result.now c.in-Err-BadText.field-0-0 BadText = rw c.in-Err-BadText.field-0-is at c.in-Err-BadText.ensures.reads in
    fault-no-print c.args.bytes.now c.in-Err-BadText.field-0-0 BadText (subst (λ (text : List ℕ). FirstFault text c.in-Err-BadText.field-0-0 BadText) (c.as_slice.ensures.value ∙ c.in_ok-text.ensures) fault)

pub returns-in-Err-TooDeep : goal.returns-in-Err-TooDeep
returns-in-Err-TooDeep c =
    let fault : FirstFault c.as_slice.result.now c.in-Err-TooDeep.field-0-0 TooDeep = rw c.in-Err-TooDeep.field-0-is at c.in-Err-TooDeep.ensures.reads in
    fault-no-print c.args.bytes.now c.in-Err-TooDeep.field-0-0 TooDeep (subst (λ (text : List ℕ). FirstFault text c.in-Err-TooDeep.field-0-0 TooDeep) (c.as_slice.ensures.value ∙ c.in_ok-text.ensures) fault)
