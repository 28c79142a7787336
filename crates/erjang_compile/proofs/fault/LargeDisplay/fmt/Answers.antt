use Rattle.erjang_compile.proofs.fault.LargeDisplay.fmt.Goals as goal

pub returns-in-Literal-clause-writes : goal.returns-in-Literal-clause-writes
returns-in-Literal-clause-writes g c = rw c.in-Literal.is c.write-in-Literal.ensures.writes
