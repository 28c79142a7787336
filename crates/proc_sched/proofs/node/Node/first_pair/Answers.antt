use Rattle.proc_sched.proofs.FirstPair.{first-some, first-none}
use Rattle.proc_sched.proofs.node.Node.first_pair.Goals as goal

pub returns-in-Some : goal.returns-in-Some
returns-in-Some c = first-some c.args.self.now c.in-Some.pair.now c.in-Some.field-0-1.now c.requires.is_node c.requires.between c.in-Some.ensures.value c.in-Some.ensures.least

pub returns-in-None : goal.returns-in-None
returns-in-None c = first-none c.args.self.now c.in-None.ensures.variant.1
