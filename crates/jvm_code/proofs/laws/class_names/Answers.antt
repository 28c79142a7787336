use Rattle.jvm_code.proofs.ClassNames.{class_spelled, class_told}
use Rattle.jvm_code.proofs.laws.class_names.Goals as goal

pub returns-clause-spelled : goal.returns-clause-spelled
returns-clause-spelled c = λ name s l. class_spelled name s l

pub returns-clause-told : goal.returns-clause-told
returns-clause-told c = λ text e. class_told text e
