use Rattle.class_verifier.proofs.VerdictLaw.{not_both, one_fault_first}
use Rattle.class_verifier.proofs.laws.classes_have_one_verdict.Goals as goal

pub returns-clause-verified : goal.returns-clause-verified
returns-clause-verified c = not_both

pub returns-clause-one : goal.returns-clause-one
returns-clause-one c = one_fault_first
