use Rattle.ej_world.specs.Auto.{deadlines, least}
use Rattle.proc_sched.specs.Stands.{processes_of, world_of}
use Rattle.proc_sched.proofs.ClockLaw.{first-deadline, no-deadline, comes, comes-not, comes-none, no-keys, to-come-later}
use Rattle.proc_sched.proofs.node.Node.next_deadline.Goals as goal

pub returns-in-Some-clause-deadline : goal.returns-in-Some-clause-deadline
returns-in-Some-clause-deadline c =
    let node = c.args.self.now in
    let first = first-deadline node.clock (processes_of node.heap node.slots.items) node.deadlines c.requires.is_node.sets.deadlines' c.requires.none_ready c.in-Some.field-0.now c.in-Some.ensures.member c.in-Some.ensures.least in
    comes c.in-Some.field-0.now.0 (least (deadlines (world_of node))) first c.if-deadline-le-LIMIT.true

pub returns-in_default-clause-deadline : goal.returns-in_default-clause-deadline
returns-in_default-clause-deadline c =
    let node = c.args.self.now in
    let first = first-deadline node.clock (processes_of node.heap node.slots.items) node.deadlines c.requires.is_node.sets.deadlines' c.requires.none_ready c.in-Some.field-0.now c.in-Some.ensures.member c.in-Some.ensures.least in
    comes-not c.in-Some.field-0.now.0 (least (deadlines (world_of node))) first c.if-deadline-le-LIMIT.false

pub returns-in_default-2-clause-deadline : goal.returns-in_default-2-clause-deadline
returns-in_default-2-clause-deadline c =
    let node = c.args.self.now in
    comes-none (least (deadlines (world_of node))) (no-deadline node.clock (processes_of node.heap node.slots.items) node.deadlines c.requires.is_node.sets.deadlines' c.requires.none_ready
    (no-keys c.first.result node.deadlines.keys c.in_default.is c.first.ensures.variant))

pub returns-in-Some-clause-later : goal.returns-in-Some-clause-later
returns-in-Some-clause-later c =
    let node = c.args.self.now in
    to-come-later node.clock (processes_of node.heap node.slots.items) node.deadlines c.requires.is_node.sets.deadlines' c.in-Some.field-0.now c.in-Some.ensures.member
