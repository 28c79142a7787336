use Rattle.std.proofs.Common.{ap, ◌∙◌, Bor, ℕ, [], ◌∷◌, None, refl}
use Rattle.std.proofs.lemmas.Map.Iter.{iter_end}
use Rattle.ej_world.specs.declared.event.Event.TheVariants as event
use Rattle.ej_world.specs.World.{ready}
use Rattle.proc_sched.specs.Nodes.{shows}
use Rattle.proc_sched.specs.Stands.{processes_of, world_of}
use Rattle.proc_sched.proofs.NodeLaw.{does-as, then-ok}
use Rattle.proc_sched.proofs.Setting.{ready-keys}
use Rattle.proc_sched.proofs.node.Node.close.Goals as goal

pub returns : goal.returns
returns c =
    let node = c.args.self.now in
    let keys = ready-keys node.clock (processes_of node.heap node.slots.items) node.ready c.requires.sets.ready' c.iter-number-items.ensures.ordered in
    let all = iter_end (λ (b : Bor ℕ). b.now) node.ready.keys c.loop-number.yielded c.into_iter-number-iterator.result c.loop-number.number-iterator c.next.new.self None
    (c.into_iter-number-iterator.ensures.into_iter_gives ∙ c.iter-number-items.ensures.rest) c.loop-number.yielded_by refl c.in-None.ensures.steps in
    then-ok c.show.result (does-as node c.show.new.self (shows (event.Ready c.from_vec.result ∷ []) (world_of node)) (shows (event.Ready (ready (world_of node)) ∷ []) (world_of node))
    (ap (λ ns. shows (event.Ready ns ∷ []) (world_of node)) (c.from_vec.ensures ∙ (c.loop-number.invariant ∙ (all.0 ∙ keys))))) c.show.ensures
