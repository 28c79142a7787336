use Rattle.jvm_code.specs.Typing.{places}
use Rattle.class_verifier.proofs.FitsLaw.{stack-fit, stack-no-fit}
use Rattle.class_verifier.proofs.fits.stack_fits.Goals as goal

pub returns-in-None : goal.returns-in-None
returns-in-None c = stack-no-fit c.args.stack.now (places c.args.wanted.now) c.in-None.ensures.rest

pub returns-in-Some : goal.returns-in-Some
returns-in-Some c = stack-fit c.args.stack.now (places c.args.wanted.now) c.in-Some.end c.in-Some.ensures.within c.in-Some.ensures.rest
