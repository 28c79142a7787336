use Rattle.std.proofs.Common.{drop}
use Rattle.class_verifier.proofs.Checking.{Gone}
use Rattle.class_verifier.proofs.check.check_methods.Given as goal

abbrev pub invariant-loop-number : goal.invariant-loop-number
invariant-loop-number l = Gone l.class l.number (drop l.number l.method-items) l.class.methods
