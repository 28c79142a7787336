use Rattle.std.proofs.Common.{◌+◌, subst, sym, arith}
use Rattle.term_heap.proofs.Kept.{keeps-then}
use Rattle.proc_sched.proofs.LoadLaw.{LoadedTo, loaded-none, loaded-more, loaded-all}
use Rattle.proc_sched.proofs.call.load_each.Goals as goal

pub loop-at-init : goal.loop-at-init
loop-at-init c = subst (LoadedTo c.args.terms.now 0 c.args.heap.now c.args.heap.now) (sym c.new-ids.ensures.items) (loaded-none c.args.terms.now c.args.heap.now)

pub returns-in_err-id-clause-keeps : goal.returns-in_err-id-clause-keeps
returns-in_err-id-clause-keeps c = keeps-then c.args.heap.now c.loop-at.heap c.load_one.new.heap c.loop-at.invariant.keeps c.in_err-id.ensures.keeps

pub returns-in_err-push-clause-keeps : goal.returns-in_err-push-clause-keeps
returns-in_err-push-clause-keeps c = keeps-then c.args.heap.now c.loop-at.heap c.load_one.new.heap c.loop-at.invariant.keeps c.in_ok-id.ensures.keeps

pub loop-at-preserved : goal.loop-at-preserved
loop-at-preserved c =
    subst (LoadedTo c.args.terms.now (c.loop-at.at + 1) c.args.heap.now c.load_one.new.heap) (sym c.in_ok-push.ensures.items)
    (loaded-more c.args.terms.now c.loop-at.at c.args.heap.now c.loop-at.heap c.load_one.new.heap c.loop-at.ids.items c.in_ok-id.id c.index-terms-at.result c.loop-at-test.true c.index-terms-at.is c.loop-at.invariant c.in_ok-id.ensures.keeps c.in_ok-id.ensures.loads)

pub returns-clause-keeps : goal.returns-clause-keeps
returns-clause-keeps c = c.loop-at.invariant.keeps

pub returns-clause-held : goal.returns-clause-held
returns-clause-held c = c.loop-at.invariant.held

pub returns-clause-terms : goal.returns-clause-terms
returns-clause-terms c = loaded-all c.args.terms.now c.loop-at.at c.args.heap.now c.loop-at.heap c.loop-at.ids.items (omega (arith, c.loop-at-test.false)) c.loop-at.invariant
