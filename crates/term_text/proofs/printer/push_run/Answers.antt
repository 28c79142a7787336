use Rattle.std.proofs.Common.{◌<◌, ◌+◌, ◌^◌, rules}
use Rattle.term_heap.specs.View.{terms_in, parts_in}
use Rattle.term_heap.proofs.HeapBounds.{heap-few}
use Rattle.term_heap.proofs.Places.{run-fits}
use Rattle.term_text.proofs.printer.push_run.Goals as goal

pub overflow_add-first : goal.overflow_add-first
overflow_add-first c =
    let heap = c.args.heap.now in
    let fits : c.args.first + 1 < 2 ^ 64 = run-fits (parts_in heap) (heap-few heap) (terms_in heap) c.args.first c.args.count c.requires.is_work c.requires.positive in
    search rules
