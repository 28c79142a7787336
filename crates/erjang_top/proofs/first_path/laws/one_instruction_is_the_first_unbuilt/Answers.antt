use Rattle.erjang_top.proofs.FirstPath.BuiltLaw.{none_unbuilt, some_unbuilt, one_unbuilt}
use Rattle.erjang_top.proofs.first_path.laws.one_instruction_is_the_first_unbuilt.Goals as goal

-- src/first_path/laws.rt
pub returns-clause-none : goal.returns-clause-none
returns-clause-none c = none_unbuilt

pub returns-clause-some : goal.returns-clause-some
returns-clause-some c = some_unbuilt

pub returns-clause-one : goal.returns-clause-one
returns-clause-one c = one_unbuilt
