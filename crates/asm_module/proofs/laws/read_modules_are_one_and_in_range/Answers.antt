use Rattle.asm_module.proofs.InRange.{reading-good}
use Rattle.asm_module.proofs.OneModule.{one_module}
use Rattle.asm_module.proofs.laws.read_modules_are_one_and_in_range.Goals as goal

pub returns-clause-one : goal.returns-clause-one
returns-clause-one c = one_module

pub returns-clause-in_range : goal.returns-clause-in_range
returns-clause-in_range c = reading-good
