use Rattle.std.proofs.Common.{string_bytes}
use Rattle.ej_term.specs.TermPrint as printed
use Rattle.term_heap.specs.View.{terms_in, parts_in, term_of}
use Rattle.term_text.proofs.Steps.{step-same, step-works, step-fewer}
use Rattle.term_text.proofs.printer.print.Goals as goal

pub loop-work-smaller : goal.loop-work-smaller
loop-work-smaller c = step-fewer (parts_in c.args.heap.now) (terms_in c.args.heap.now) c.in-Some.work (string_bytes c.loop-work.out) (string_bytes c.step.new.out) c.loop-work.pending.items c.pop.new.self.items c.step.new.pending.items
    c.in_ok-step.ensures c.in-Some.ensures.items

pub loop-work-preserved : goal.loop-work-preserved
loop-work-preserved c = (
  step-same (parts_in c.args.heap.now) (terms_in c.args.heap.now) c.in-Some.work (string_bytes c.loop-work.out) (string_bytes c.step.new.out) (printed.print (term_of c.args.heap.now c.args.t))
      c.loop-work.pending.items c.pop.new.self.items c.step.new.pending.items c.in_ok-step.ensures c.loop-work.invariant.0 c.in-Some.ensures.items,
  step-works (parts_in c.args.heap.now) (terms_in c.args.heap.now) c.in-Some.work (string_bytes c.loop-work.out) (string_bytes c.step.new.out)
      c.loop-work.pending.items c.pop.new.self.items c.step.new.pending.items c.in_ok-step.ensures c.loop-work.invariant.1 c.in-Some.ensures.items,
)
