use Rattle.std.proofs.Common.{refl, subst}
use Rattle.std.proofs.Math.Facts.{to_z-of_z}
use Rattle.ej_term.specs.Term.{Int}
use Rattle.ej_world.specs.declared.event.Event.TheVariants as event
use Rattle.term_heap.specs.View.{Stands}
use Rattle.world_tests.proofs.ActsLaw.{told-term, to-process, to-none}
use Rattle.world_tests.proofs.acts.send.Goals as goal

pub returns-then-to-view-clause-does : goal.returns-then-to-view-clause-does
returns-then-to-view-clause-does c =
    to-process c.args.heap.now c.int.new.self c.args.view.now c.tell.new.view c.tell.result c.args.to (event.Send c.args.view.now.me c.args.to (Int c.args.n)) (event.Lost c.args.view.now.me (Int c.args.n)) c.if-to-view.true
    (told-term c.args.heap.now c.int.new.self c.args.view.now c.tell.new.view c.tell.result c.in_ok-message.message (Int c.args.n) (event.Send c.args.view.now.me c.args.to c.in_ok-message.message) (event.Send c.args.view.now.me c.args.to)
    c.requires.held c.in_ok-message.ensures.keeps (subst (λ n. Stands c.int.new.self c.in_ok-message.message (Int n)) (to_z-of_z c.ranges.n) c.in_ok-message.ensures.term) refl refl c.tell.ensures)

pub returns-else-to-view-clause-does : goal.returns-else-to-view-clause-does
returns-else-to-view-clause-does c =
    to-none c.args.heap.now c.int.new.self c.args.view.now c.tell-else-to-view.new.view c.tell-else-to-view.result c.args.to (event.Send c.args.view.now.me c.args.to (Int c.args.n)) (event.Lost c.args.view.now.me (Int c.args.n)) c.if-to-view.false
    (told-term c.args.heap.now c.int.new.self c.args.view.now c.tell-else-to-view.new.view c.tell-else-to-view.result c.in_ok-message.message (Int c.args.n) (event.Lost c.args.view.now.me c.in_ok-message.message) (event.Lost c.args.view.now.me)
    c.requires.held c.in_ok-message.ensures.keeps (subst (λ n. Stands c.int.new.self c.in_ok-message.message (Int n)) (to_z-of_z c.ranges.n) c.in_ok-message.ensures.term) refl refl c.tell-else-to-view.ensures)
