use Rattle.std.proofs.Common.{◌+◌, get_or, refl, sym, subst, ◌∙◌}
use Rattle.std.specs.Vec.{with_item}
use Rattle.proc_sched.proofs.LinksLaw.{DropsFrom, relink-none, without_me, slot_with, drop-own, drop-rises, drop-other, drop-other-rises, drop-skip, drop-more, drop-all}
use Rattle.proc_sched.proofs.node.Node.drop_links.Goals.{then-not-holds, else-not-holds}
use Rattle.proc_sched.proofs.node.Node.drop_links.Goals as goal

pub loop-other-init : goal.loop-other-init
loop-other-init c = relink-none c.args.me (without_me c.args.me) (λ s. s.links.items) (λ s. c.args.before.now) c.args.self.now c.requires.slots'

pub index-requires : goal.index-requires
index-requires c = drop-own c.args.me c.args.before.now c.loop-other.other-index c.args.self.now c.loop-other.self c.requires c.loop-other.invariant

pub holds-requires : goal.holds-requires
holds-requires c = record { rising = drop-rises c.args.me c.args.before.now c.loop-other.other-index c.args.self.now c.loop-other.self c.requires c.loop-other.invariant c.index.result.now c.as_slice.result.now c.index.ensures c.as_slice.ensures.value }

pub index_mut-requires : goal.index_mut-requires
index_mut-requires c = drop-other c.args.me c.args.before.now c.loop-other.other-index c.args.self.now c.loop-other.self c.requires c.loop-other.invariant c.loop-other-test.true

pub remove-requires : goal.remove-requires
remove-requires c = record { rising = drop-other-rises c.args.me c.args.before.now c.loop-other.other-index c.args.self.now c.loop-other.self c.requires c.loop-other.invariant c.index_mut.result.now c.loop-other-test.true c.index_mut.ensures.value }

pub loop-other-preserved : goal.loop-other-preserved
loop-other-preserved c =
    let me = c.args.me in
    let before = c.args.before.now in
    let at = c.loop-other.other-index in
    let now = c.loop-other.self in
    let other = get_or before at 0 in
    elim c.if-not-holds.branch [
      | then-not-holds w ↦ subst (DropsFrom me before (at + 1) c.args.self.now) (sym w.self-is)
          (drop-more me before at c.args.self.now now c.requires c.loop-other.invariant c.index.result.now w.index_mut.result.now c.as_slice.result.now w.remove.new.numbers
          (with_item now.slots other (slot_with w.index_mut.result.now w.remove.new.numbers)) c.loop-other-test.true c.index.ensures c.as_slice.ensures.value (sym c.holds.ensures ∙ w.if-not-holds.true)
          w.index_mut.ensures.value w.remove.ensures refl)
      | else-not-holds w ↦ subst (DropsFrom me before (at + 1) c.args.self.now) (sym w.self-is)
          (drop-skip me before at c.args.self.now now c.requires c.loop-other.invariant c.index.result.now c.as_slice.result.now c.loop-other-test.true c.index.ensures c.as_slice.ensures.value
          (sym c.holds.ensures ∙ w.if-not-holds.false))
    ]

pub returns : goal.returns
returns c = drop-all c.args.me c.args.before.now c.loop-other.other-index c.args.self.now c.loop-other.self c.requires c.loop-other-test.false c.loop-other.invariant
