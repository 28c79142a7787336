use Rattle.std.proofs.Common.{ap}
use Rattle.ej_term.specs.Term.{Atom}
use Rattle.proc_sched.specs.Nodes.{killed}
use Rattle.proc_sched.proofs.DeliveryLaw.{makes-term, killed_characters}
use Rattle.proc_sched.proofs.node.Node.killed.Goals as goal

pub returns : goal.returns
returns c = makes-term c.args.self.now c.atom.new.self c.in_ok-atom.field-0 _ killed c.requires c.in_ok-atom.ensures.keeps c.in_ok-atom.ensures.term (ap Atom killed_characters)
