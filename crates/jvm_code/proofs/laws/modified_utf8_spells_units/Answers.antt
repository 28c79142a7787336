use Rattle.std.proofs.Common.{length, arith}
use Rattle.jvm_code.proofs.UnitsLaw.{spelled, told}
use Rattle.jvm_code.proofs.laws.modified_utf8_spells_units.Goals as goal

pub returns-clause-spelled : goal.returns-clause-spelled
returns-clause-spelled c = λ units h. spelled units h

pub returns-clause-told : goal.returns-clause-told
returns-clause-told c = λ bytes e. told (length bytes) bytes (omega arith) e
