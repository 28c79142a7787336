use Rattle.std.proofs.Common.{◌≡◌, ◌∙◌, subst, sym, IfOk, ap, FitsSigned, w64}
use Rattle.std.proofs.lemmas.Int.{to_z-of_z}
use Rattle.asm_terms.proofs.DigitLemmas.{integer_read, integer_kept}
use Rattle.asm_terms.specs.declared.token.Token.TheVariants as token
use Rattle.asm_terms.proofs.number.integer.Goals as goal

pub returns-in-Ok : goal.returns-in-Ok
returns-in-Ok c =
    let v = c.in-Ok.ensures.value.0 in
    ap token.Int (to_z-of_z w64 c.in-Ok.value (subst (λ z. FitsSigned w64 z) (sym v.1) v.0.1))
    ∙ integer_read c.args.spelled.now c.as_str.result.now c.in-Ok.value c.requires c.as_str.ensures.bytes v.0.1 v.1

pub returns-in-Err : goal.returns-in-Err
returns-in-Err c = subst (λ x. IfOk c.opaque.result (λ made. made ≡ x)) (integer_kept c.args.spelled.now c.as_str.result.now c.requires c.as_str.ensures.bytes c.in-Err.ensures.value.0) c.opaque.ensures
