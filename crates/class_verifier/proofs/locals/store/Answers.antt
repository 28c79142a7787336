use Rattle.std.proofs.Common.{arith}
use Rattle.class_verifier.proofs.LocalsLaw.{stored-is}
use Rattle.class_verifier.proofs.locals.store.Goals as goal

pub returns : goal.returns
returns c = stored-is c.args.locals.now.items c.clear_half.new.locals.items c.args.local c.args.given (omega arith) c.clear_half.ensures
