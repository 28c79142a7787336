use Rattle.std.proofs.Common.{refl}
use Rattle.ej_term.specs.declared.class.Class3.TheVariants as class
use Rattle.ej_world.specs.declared.event.Event.TheVariants as event
use Rattle.world_tests.specs.Acts.{reason_of}
use Rattle.world_tests.proofs.ActsLaw.{told-term}
use Rattle.world_tests.proofs.acts.raise.Goals as goal

pub returns-clause-does : goal.returns-clause-does
returns-clause-does c =
    told-term c.args.heap.now c.reason_id.new.heap c.args.view.now c.tell.new.view c.tell.result c.in_ok-reason.reason (reason_of c.args.reason) (event.Raise c.args.view.now.me class.Exit c.in_ok-reason.reason) (event.Raise c.args.view.now.me class.Exit)
    c.requires.held c.in_ok-reason.ensures.keeps c.in_ok-reason.ensures.term refl refl c.tell.ensures
