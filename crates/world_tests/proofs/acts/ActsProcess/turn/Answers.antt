use Rattle.std.proofs.Common.{length, refl, sym, ap, ◌∙◌, arith}
use Rattle.std.specs.Prelude.{slice_get}
use Rattle.std.proofs.lemmas.Bool.{ltb-true, ltb-false}
use Rattle.std.proofs.lemmas.Option.{slice_get_read}
use Rattle.world_tests.proofs.ActsLaw.{rests, turns-by}
use Rattle.world_tests.proofs.acts.ActsProcess.turn.Goals as goal

pub returns-in-None-clause-turns : goal.returns-in-None-clause-turns
returns-in-None-clause-turns c =
    rests c.args.self.now.rows.items c.args._transfers c.args.heap.now c.args.state.now c.args.view.now (omega (arith, ltb-false c.args.state.now (length c.as_slice.result.now) (sym c.in-None.ensures.lookup.0), ap length c.as_slice.ensures.value)) c.requires.view

pub returns-in-Some-clause-turns : goal.returns-in-Some-clause-turns
returns-in-Some-clause-turns c =
    turns-by c.args.self.now.rows.items c.in-Some.act.now c.args._transfers c.args.heap.now c.do_act.new.heap c.args.state.now c.args.view.now c.do_act.new.view c.do_act.result
    (ap (λ rows. slice_get rows c.args.state.now) (sym c.as_slice.ensures.value)
    ∙ slice_get_read c.as_slice.result.now (length c.as_slice.result.now) c.args.state.now c.in-Some.act.now refl (ltb-true c.args.state.now (length c.as_slice.result.now) (sym c.in-Some.ensures.lookup.0)) c.in-Some.ensures.lookup.1)
    c.do_act.ensures.does
