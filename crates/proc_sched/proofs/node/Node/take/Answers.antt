use Rattle.std.proofs.Common.{refl, sym, ap, ◌∙◌, map}
use Rattle.std.specs.Prelude.{Some, None}
use Rattle.std.proofs.lemmas.Bool.{eqb-true}
use Rattle.proc_sched.proofs.NodeLaw.{takes-signal, none-left, nothing-left, holds-rest, none-same}
use Rattle.proc_sched.specs.Stands.{signal_of}
use Rattle.proc_sched.proofs.node.Node.take.Goals as goal

pub returns-in_ok-insert : goal.returns-in_ok-insert
returns-in_ok-insert c =
    let rest = c.take_first-signal.new.signals in
    takes-signal c.args.self.now c.take_queue-queue.new.self c.args.pair c.take_queue-queue.result c.take_first-signal.result rest.items (Some rest) c.insert.new.self c.requires c.take_queue-queue.ensures c.take_first-signal.ensures.items
    (none-left c.take_queue-queue.result.items c.take_first-signal.result rest.items c.take_first-signal.ensures.none c.take_first-signal.ensures.items) refl (holds-rest c.args.self.now.heap rest c.is_empty.result c.is_empty.ensures c.if-not-is_empty.true) c.in_ok-insert.ensures.updates.0

pub returns-else-not-is_empty : goal.returns-else-not-is_empty
returns-else-not-is_empty c =
    let rest = c.take_first-signal.new.signals in
    takes-signal c.args.self.now c.take_queue-queue.new.self c.args.pair c.take_queue-queue.result c.take_first-signal.result rest.items None c.take_queue-queue.new.self.queues c.requires c.take_queue-queue.ensures c.take_first-signal.ensures.items
    (none-left c.take_queue-queue.result.items c.take_first-signal.result rest.items c.take_first-signal.ensures.none c.take_first-signal.ensures.items)
    (sym (ap (map (signal_of c.args.self.now.heap)) (nothing-left rest (eqb-true rest.len 0 (sym c.is_empty.ensures ∙ c.if-not-is_empty.false))))) (λ all. tt) (none-same c.args.self.now c.take_queue-queue.new.self c.args.pair c.take_queue-queue.result c.take_queue-queue.ensures)
