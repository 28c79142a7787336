use Rattle.std.proofs.Common.{refl, subst}
use Rattle.std.proofs.Math.Facts.{to_z-of_z}
use Rattle.ej_term.specs.Term.{Int}
use Rattle.ej_world.specs.declared.event.Event.TheVariants as event
use Rattle.term_heap.specs.View.{Stands}
use Rattle.world_tests.proofs.ActsLaw.{told-term}
use Rattle.world_tests.proofs.acts.print.Goals as goal

pub returns-clause-does : goal.returns-clause-does
returns-clause-does c =
    told-term c.args.heap.now c.int.new.self c.args.view.now c.tell.new.view c.tell.result c.in_ok-n.n (Int c.args.n) (event.Print c.args.view.now.me c.in_ok-n.n) (event.Print c.args.view.now.me) c.requires.held c.in_ok-n.ensures.keeps
    (subst (λ n. Stands c.int.new.self c.in_ok-n.n (Int n)) (to_z-of_z c.ranges.n) c.in_ok-n.ensures.term) refl refl c.tell.ensures
