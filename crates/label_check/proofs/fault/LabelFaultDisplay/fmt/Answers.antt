use Rattle.label_check.proofs.fault.LabelFaultDisplay.fmt.Goals as goal

pub returns-in-BadArity-clause-writes : goal.returns-in-BadArity-clause-writes
returns-in-BadArity-clause-writes g c = rw c.in-BadArity.is c.write-in-BadArity.ensures.writes
