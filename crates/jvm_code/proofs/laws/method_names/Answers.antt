use Rattle.jvm_code.proofs.MethodNames.{function_passes, part_passes, method_told}
use Rattle.jvm_code.proofs.laws.method_names.Goals as goal

pub returns-clause-function : goal.returns-clause-function
returns-clause-function c = λ flags name arity s l. function_passes flags name arity s l

pub returns-clause-part : goal.returns-clause-part
returns-clause-part c = λ function number f l h. part_passes function number f l h

pub returns-clause-told : goal.returns-clause-told
returns-clause-told c = λ flags text e. method_told flags text e
