use Rattle.std.proofs.Common.{subst, arith}
use Rattle.std.proofs.Math.Facts.{to_z-of_z}
use Rattle.ej_term.specs.Term.{Int}
use Rattle.term_heap.specs.View.{Stands}
use Rattle.world_tests.proofs.ActsLaw.{spawns-one}
use Rattle.world_tests.proofs.acts.spawn.Goals as goal

pub returns-clause-does : goal.returns-clause-does
returns-clause-does c =
    spawns-one c.args.heap.now c.int.new.self c.args.view.now c.enter.new.view c.tell.new.view (Int c.args.row) c.args.linked c.tell.result c.in_ok-row.row c.requires (omega (arith, c.if-made-ge-LIMIT.false)) c.in_ok-row.ensures.keeps
    (subst (λ n. Stands c.int.new.self c.in_ok-row.row (Int n)) (to_z-of_z c.ranges.row) c.in_ok-row.ensures.term) c.in_ok-enter.ensures c.tell.ensures
