use Rattle.std.proofs.Common.{◌+◌, length, refl, sym, subst, ◌∙◌, arith}
use Rattle.std.specs.Vec.{with_item}
use Rattle.proc_sched.proofs.LinksLaw.{AddsFrom, relink-none, with_me, slot_with, add-within, add-other, add-rises, add-skip, add-more, add-all}
use Rattle.proc_sched.proofs.Rises.{rising-within}
use Rattle.proc_sched.proofs.node.Node.add_links.Goals.{then-not-holds+in_ok-add, else-not-holds}
use Rattle.proc_sched.proofs.node.Node.add_links.Goals as goal

pub loop-at-init : goal.loop-at-init
loop-at-init c = relink-none c.args.me (with_me c.args.me) (λ s. c.args.before.now) (λ s. s.links.items) c.args.self.now c.requires.slots'

pub index-other-requires : goal.index-other-requires
index-other-requires c =
    let lt =
    add-within c.args.me c.args.before.now c.loop-at.at c.args.self.now c.loop-at.self c.index.result.now c.index-in-loop-at.result.now c.len-count.result c.requires c.loop-at.invariant c.index.ensures c.index-in-loop-at.ensures c.len-count.ensures c.loop-at-test.true in
    omega (arith, lt, c.index-in-loop-at.result.now.links.ok.0)

pub holds-requires : goal.holds-requires
holds-requires c = record { rising = rising-within 0 (length c.args.self.now.slots.items) c.args.before.now c.requires.before'.below }

pub index_mut-requires : goal.index_mut-requires
index_mut-requires c =
    let lt =
    add-within c.args.me c.args.before.now c.loop-at.at c.args.self.now c.loop-at.self c.index.result.now c.index-in-loop-at.result.now c.len-count.result c.requires c.loop-at.invariant c.index.ensures c.index-in-loop-at.ensures c.len-count.ensures c.loop-at-test.true in
    add-other c.args.me c.args.before.now c.loop-at.at c.args.self.now c.loop-at.self c.requires c.loop-at.invariant c.index-in-loop-at.result.now c.index-in-loop-at.ensures lt c.index-other.result.now c.index-other.ensures

pub add-requires : goal.add-requires
add-requires c =
    let lt =
    add-within c.args.me c.args.before.now c.loop-at.at c.args.self.now c.loop-at.self c.index.result.now c.index-in-loop-at.result.now c.len-count.result c.requires c.loop-at.invariant c.index.ensures c.index-in-loop-at.ensures c.len-count.ensures c.loop-at-test.true in
    record { rising = add-rises c.args.me c.args.before.now c.loop-at.at c.args.self.now c.loop-at.self c.requires c.loop-at.invariant c.index-in-loop-at.result.now c.index-in-loop-at.ensures lt c.index-other.result.now c.index-other.ensures c.index_mut.result.now c.index_mut.ensures.value }

pub loop-at-preserved : goal.loop-at-preserved
loop-at-preserved c =
    let lt =
    add-within c.args.me c.args.before.now c.loop-at.at c.args.self.now c.loop-at.self c.index.result.now c.index-in-loop-at.result.now c.len-count.result c.requires c.loop-at.invariant c.index.ensures c.index-in-loop-at.ensures c.len-count.ensures c.loop-at-test.true in
    let slots = c.loop-at.self.slots in
    let other = c.index-other.result.now in
    elim c.if-not-holds.branch [
      | then-not-holds+in_ok-add w ↦ subst (AddsFrom c.args.me c.args.before.now (c.loop-at.at + 1) c.args.self.now) (sym w.self-is)
          (add-more c.args.me c.args.before.now c.loop-at.at c.args.self.now c.loop-at.self c.requires c.loop-at.invariant c.index-in-loop-at.result.now c.index-in-loop-at.ensures lt c.index-other.result.now c.index-other.ensures w.index_mut.result.now w.add.new.numbers
          (with_item slots other (slot_with w.index_mut.result.now w.add.new.numbers)) (sym c.holds.ensures ∙ w.if-not-holds.true) w.index_mut.ensures.value w.in_ok-add.ensures refl)
      | else-not-holds w ↦ subst (AddsFrom c.args.me c.args.before.now (c.loop-at.at + 1) c.args.self.now) (sym w.self-is)
          (add-skip c.args.me c.args.before.now c.loop-at.at c.args.self.now c.loop-at.self c.requires c.loop-at.invariant c.index-in-loop-at.result.now c.index-in-loop-at.ensures lt c.index-other.result.now c.index-other.ensures (sym c.holds.ensures ∙ w.if-not-holds.false))
    ]

pub returns : goal.returns
returns c =
    let long = c.index.result.now.links.ok.0 in
    add-all c.args.me c.args.before.now c.loop-at.at c.args.self.now c.loop-at.self c.index.result.now c.requires c.index.ensures (omega (arith, c.loop-at-test.false, c.len-count.ensures, long)) c.loop-at.invariant
