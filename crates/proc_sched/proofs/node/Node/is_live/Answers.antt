use Rattle.std.proofs.Common.{sym, ap, ◌∙◌}
use Rattle.std.proofs.lemmas.Option.{slice_get-map}
use Rattle.std.specs.Option.{option_map}
use Rattle.proc_sched.specs.Nodes.{live_at}
use Rattle.proc_sched.specs.Stands.{process_of}
use Rattle.proc_sched.proofs.node.Node.is_live.Goals as goal

pub returns-in-Some : goal.returns-in-Some
returns-in-Some c =
    let heap = c.args.self.now.heap in
    c.is_live.ensures heap ∙ ap (λ o. live_at (option_map (process_of heap) o)) c.in-Some.ensures ∙ sym (ap live_at (slice_get-map (process_of heap) c.args.self.now.slots.items c.args.number))

pub returns-in-None : goal.returns-in-None
returns-in-None c =
    let heap = c.args.self.now.heap in
    ap (λ o. live_at (option_map (process_of heap) o)) c.in-None.ensures ∙ sym (ap live_at (slice_get-map (process_of heap) c.args.self.now.slots.items c.args.number))
