use Rattle.term_heap.specs.View.{term_of}
use Rattle.std.proofs.Common.{◌≡◌, ◌+◌, get_or, refl, rules}
use Rattle.std.specs.List.{slice_set}
use Rattle.term_ops.proofs.BagLemmas.{add-here, must-be-here}
use Rattle.term_ops.proofs.bag.add.Goals as goal

pub unreachable-requires : goal.unreachable-requires
unreachable-requires c = must-be-here c.args.heap.now c.args.keys.now c.args.counts.now.items (term_of c.args.heap.now c.args.id) c.in_ok-place.field-0 c.in-Err.field-0 c.requires.as_many c.in_ok-place.ensures c.requires.among c.in-Err.is

pub returns-clause-counts : goal.returns-clause-counts
returns-clause-counts c =
    let read : c.index_mut.result.now ≡ get_or c.args.counts.now.items c.in-Ok.place c.index_mut.result.now = search rules in
    add-here c.args.heap.now c.args.keys.now c.args.counts.now.items (term_of c.args.heap.now c.args.id) c.in_ok-place.field-0 c.in-Ok.place c.requires.as_many c.in_ok-place.ensures c.index_mut.result.now
    (slice_set c.args.counts.now.items c.in-Ok.place (c.index_mut.result.now + 1)) c.in-Ok.is read refl
