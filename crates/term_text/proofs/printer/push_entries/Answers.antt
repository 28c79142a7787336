use Rattle.std.proofs.Common.{◌<◌, ◌+◌, ◌^◌, rules}
use Rattle.term_heap.specs.View.{terms_in, parts_in}
use Rattle.term_heap.proofs.HeapBounds.{heap-few}
use Rattle.term_heap.proofs.Places.{run-fits}
use Rattle.term_text.proofs.printer.push_entries.Goals as goal

pub overflow_add-key : goal.overflow_add-key
overflow_add-key c =
    let heap = c.args.heap.now in
    let fits : c.args.key + 1 < 2 ^ 64 = run-fits (parts_in heap) (heap-few heap) (terms_in heap) c.args.key c.args.count c.requires.is_work.0 c.requires.positive in
    search rules

pub overflow_add-value : goal.overflow_add-value
overflow_add-value c =
    let heap = c.args.heap.now in
    let fits : c.args.value + 1 < 2 ^ 64 = run-fits (parts_in heap) (heap-few heap) (terms_in heap) c.args.value c.args.count c.requires.is_work.1 c.requires.positive in
    search rules
