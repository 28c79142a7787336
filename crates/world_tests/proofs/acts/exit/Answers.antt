use Rattle.std.proofs.Common.{refl}
use Rattle.ej_world.specs.declared.event.Event.TheVariants as event
use Rattle.world_tests.specs.Acts.{reason_of}
use Rattle.world_tests.proofs.ActsLaw.{told-term, to-process, to-none}
use Rattle.world_tests.proofs.acts.exit.Goals as goal

pub returns-then-to-view-clause-does : goal.returns-then-to-view-clause-does
returns-then-to-view-clause-does c =
    to-process c.args.heap.now c.reason_id.new.heap c.args.view.now c.tell.new.view c.tell.result c.args.to (event.Signal c.args.view.now.me c.args.to (reason_of c.args.reason)) (event.Lost c.args.view.now.me (reason_of c.args.reason)) c.if-to-view.true
    (told-term c.args.heap.now c.reason_id.new.heap c.args.view.now c.tell.new.view c.tell.result c.in_ok-reason.reason (reason_of c.args.reason) (event.Signal c.args.view.now.me c.args.to c.in_ok-reason.reason) (event.Signal c.args.view.now.me c.args.to)
    c.requires.held c.in_ok-reason.ensures.keeps c.in_ok-reason.ensures.term refl refl c.tell.ensures)

pub returns-else-to-view-clause-does : goal.returns-else-to-view-clause-does
returns-else-to-view-clause-does c =
    to-none c.args.heap.now c.reason_id.new.heap c.args.view.now c.tell-else-to-view.new.view c.tell-else-to-view.result c.args.to (event.Signal c.args.view.now.me c.args.to (reason_of c.args.reason)) (event.Lost c.args.view.now.me (reason_of c.args.reason)) c.if-to-view.false
    (told-term c.args.heap.now c.reason_id.new.heap c.args.view.now c.tell-else-to-view.new.view c.tell-else-to-view.result c.in_ok-reason.reason (reason_of c.args.reason) (event.Lost c.args.view.now.me c.in_ok-reason.reason) (event.Lost c.args.view.now.me)
    c.requires.held c.in_ok-reason.ensures.keeps c.in_ok-reason.ensures.term refl refl c.tell-else-to-view.ensures)
