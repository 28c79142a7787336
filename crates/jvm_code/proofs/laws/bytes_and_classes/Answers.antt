use Rattle.jvm_code.proofs.ClassLaw.{one_string}
use Rattle.jvm_code.proofs.laws.bytes_and_classes.Goals as goal

pub returns-clause-one_string : goal.returns-clause-one_string
returns-clause-one_string c = λ one other class h i. one_string one other class h i
