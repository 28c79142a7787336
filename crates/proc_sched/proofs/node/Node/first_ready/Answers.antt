use Rattle.proc_sched.specs.Stands.{processes_of}
use Rattle.proc_sched.proofs.ClockLaw.{first-ready}
use Rattle.proc_sched.proofs.node.Node.first_ready.Goals as goal

pub returns : goal.returns
returns c =
    let node = c.args.self.now in
    first-ready node.clock (processes_of node.heap node.slots.items) node.ready c.requires.sets.ready' c.first.result c.copied.result c.copied.ensures c.first.ensures.variant c.first.ensures.member c.first.ensures.least
