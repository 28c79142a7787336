use Rattle.jvm_code.specs.Typing.{places}
use Rattle.class_verifier.proofs.FitsLaw.{filled-fit}
use Rattle.class_verifier.proofs.fits.locals_fit.Goals as goal

pub returns-in-Some : goal.returns-in-Some
returns-in-Some c = filled-fit c.args.locals.now (places c.args.wanted.now) c.in-Some.end c.args.max_locals c.max.result c.in-Some.ensures.count c.in-Some.ensures.within c.max.ensures c.in-Some.ensures.rest
