use Rattle.std.proofs.Common.{IfOk, sym, subst}
use Rattle.proc_sched.specs.declared.view.Outcome.TheVariants as outcome
use Rattle.world_tests.specs.Acting.{Does}
use Rattle.world_tests.specs.Acts.{doing, reason_of}
use Rattle.world_tests.proofs.ActsLaw.{rising-links, faults, ends-with}
use Rattle.world_tests.proofs.acts.do_act.Goals as goal

pub unlink-requires : goal.unlink-requires
unlink-requires c = rising-links c.args.heap.now c.args.view.now c.requires

pub returns-in-Fault-clause-does : goal.returns-in-Fault-clause-does
returns-in-Fault-clause-does c =
    subst (λ a. IfOk c.tell.result (Does (doing a) c.args.heap.now c.args.view.now c.args.heap.now c.tell.new.view)) (sym c.in-Fault.is)
    (faults c.args.heap.now c.args.view.now c.tell.new.view c.tell.result c.requires c.tell.ensures)

pub returns-in_ok-reason_id-in-End-clause-does : goal.returns-in_ok-reason_id-in-End-clause-does
returns-in_ok-reason_id-in-End-clause-does c =
    subst (λ a. Does (doing a) c.args.heap.now c.args.view.now c.reason_id.new.heap c.args.view.now (outcome.Ended c.in_ok-reason_id-in-End.field-0)) (sym c.in-End.is)
    (ends-with c.args.heap.now c.reason_id.new.heap c.args.view.now c.in_ok-reason_id-in-End.field-0 (reason_of c.in-End.reason) c.requires c.in_ok-reason_id-in-End.ensures.keeps c.in_ok-reason_id-in-End.ensures.term)
