use Rattle.std.proofs.Common.{◌∙◌, arith}
use Rattle.std.proofs.lemmas.List.{length-map}
use Rattle.proc_sched.specs.Stands.{process_of, processes_of}
use Rattle.proc_sched.proofs.ClockLaw.{ready-above, ready-past}
use Rattle.proc_sched.proofs.node.Node.ready_above.Goals as goal

pub returns-in_err-least : goal.returns-in_err-least
returns-in_err-least c =
    let node = c.args.self.now in
    let small = node.slots.small in
    c.from_residual.ensures ∙ ready-past node.clock (processes_of node.heap node.slots.items) node.ready c.requires.sets.ready' c.args.last
    (omega (arith, c.in_err-least.ensures, length-map node.slots.items (process_of node.heap), node.slots.ok.0, node.slots.ok.1, small))

pub returns : goal.returns
returns c =
    let node = c.args.self.now in
    ready-above node.clock (processes_of node.heap node.slots.items) node.ready c.requires.sets.ready' c.args.last c.in_ok-least.least c.next.result c.copied.result c.range.result c.next.new.self c.copied.ensures
    c.in_ok-least.ensures.1 c.next.ensures.steps (c.range.ensures.in_range tt)
