use Rattle.std.proofs.Common.{refl, sym, ap, ◌∙◌}
use Rattle.ej_world.specs.Choices.{holds}
use Rattle.proc_sched.proofs.SlotLaw.{unlinks-none, unlinks-one}
use Rattle.proc_sched.proofs.node.Node.unlink.Goals as goal

pub returns-then-not-holds : goal.returns-then-not-holds
returns-then-not-holds c =
    unlinks-none c.args.self.now c.args.from c.args.to _ c.index_mut.result.now c.requires.is_node c.requires.within c.index_mut.ensures.value refl
    (sym c.if-not-holds.true ∙ (c.holds.ensures ∙ ap (λ ns. holds ns c.args.from) c.as_slice.ensures.value))

pub returns : goal.returns
returns c =
    unlinks-one c.args.self.now c.args.from c.args.to _ c.index_mut.result.now c.remove.new.numbers c.requires.is_node c.requires.within c.index_mut.ensures.value refl c.remove.ensures
    (sym c.if-not-holds.false ∙ (c.holds.ensures ∙ ap (λ ns. holds ns c.args.from) c.as_slice.ensures.value))
