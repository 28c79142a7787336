use Rattle.std.proofs.Common.{ap, sym, ◌∙◌, arith}
use Rattle.jvm_code.specs.Typing.{is_long}
use Rattle.class_verifier.proofs.FitsLaw.{fit-both, fit-single, not-fit}
use Rattle.class_verifier.proofs.fits.fit_at.Goals as goal

pub returns-then-not-fits-clause-rest : goal.returns-then-not-fits-clause-rest
returns-then-not-fits-clause-rest c = λ rest.
    not-fit c.args.types.now c.args.place c.index-types-place.result c.args.wanted.now rest (omega arith) c.index-types-place.is (sym c.fits.ensures ∙ c.if-not-fits.true)

pub returns-then-not-is_long-clause-rest : goal.returns-then-not-is_long-clause-rest
returns-then-not-is_long-clause-rest c = λ rest.
    fit-single c.args.types.now c.args.place c.index-types-place.result c.args.wanted.now rest (omega arith) c.index-types-place.is (sym c.fits.ensures ∙ c.if-not-fits.false)
    (sym (ap is_long c.of.ensures) ∙ sym c.is_long.ensures ∙ c.if-not-is_long.true)

pub returns-clause-rest : goal.returns-clause-rest
returns-clause-rest c = λ rest.
    fit-both c.args.types.now c.args.place c.index-types-place.result c.args.wanted.now rest (omega arith) c.index-types-place.is (sym c.fits.ensures ∙ c.if-not-fits.false)
    (sym (ap is_long c.of.ensures) ∙ sym c.is_long.ensures ∙ c.if-not-is_long.false) (omega arith)
