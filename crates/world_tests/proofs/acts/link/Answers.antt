use Rattle.std.proofs.Common.{sym, ap, ◌∙◌, subst}
use Rattle.ej_term.specs.Term.{Atom}
use Rattle.ej_world.specs.Choices.{holds}
use Rattle.term_heap.specs.View.{Stands}
use Rattle.proc_sched.specs.Stands.{Rising}
use Rattle.world_tests.proofs.ActsLaw.{rising-links, rising-live, links-nothing, links-live, links-ended, spelled-noproc}
use Rattle.world_tests.proofs.acts.link.Goals as goal

pub may_link-requires : goal.may_link-requires
may_link-requires c = rising-links c.args.heap.now c.args.view.now c.requires

pub returns-then-not-may_link-clause-does : goal.returns-then-not-may_link-clause-does
returns-then-not-may_link-clause-does c = links-nothing c.args.heap.now c.args.view.now c.args.other c.requires (sym (c.may_link.ensures c.args.heap.now) ∙ c.if-not-may_link.true)

pub add-requires : goal.add-requires
add-requires c = record { rising = rising-links c.args.heap.now c.args.view.now c.requires }

pub holds-requires : goal.holds-requires
holds-requires c = record { rising = subst Rising (sym c.as_slice.ensures.value) (rising-live c.args.heap.now c.args.view.now c.requires) }

pub returns-then-holds-clause-does : goal.returns-then-holds-clause-does
returns-then-holds-clause-does c =
    links-live c.args.heap.now c.args.view.now c.args.other c.add.new.numbers c.requires (sym (c.may_link.ensures c.args.heap.now) ∙ c.if-not-may_link.false) c.in_ok-add.ensures
    (ap (λ ns. holds ns c.args.other) (sym c.as_slice.ensures.value) ∙ (sym c.holds.ensures ∙ c.if-holds.true))

pub returns-clause-does : goal.returns-clause-does
returns-clause-does c =
    links-ended c.args.heap.now c.atom.new.self c.args.view.now c.tell.new.view c.args.other c.add.new.numbers c.tell.result c.in_ok-noproc.noproc c.requires (sym (c.may_link.ensures c.args.heap.now) ∙ c.if-not-may_link.false) c.in_ok-add.ensures
    (ap (λ ns. holds ns c.args.other) (sym c.as_slice.ensures.value) ∙ (sym c.holds.ensures ∙ c.if-holds.false)) c.in_ok-noproc.ensures.keeps
    (subst (λ name. Stands c.atom.new.self c.in_ok-noproc.noproc (Atom name)) spelled-noproc c.in_ok-noproc.ensures.term) c.tell.ensures
