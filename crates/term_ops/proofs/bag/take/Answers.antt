use Rattle.std.proofs.Common.{◌≡◌, ◌-◌, ◌<◌, get_or, refl, rules, arith}
use Rattle.std.specs.List.{slice_set}
use Rattle.term_heap.specs.View.{term_of}
use Rattle.term_ops.proofs.BagLemmas.{none-left, none-here, one-taken}
use Rattle.term_ops.proofs.bag.take.Goals as goal

pub returns-then-index-eq0-clause-taken : goal.returns-then-index-eq0-clause-taken
returns-then-index-eq0-clause-taken c =
    let read : c.index.result.now ≡ get_or c.args.counts.now.items c.in-Ok.place c.index.result.now = search rules in
    none-left c.args.heap.now c.args.keys.now c.args.counts.now.items (term_of c.args.heap.now c.args.id) c.in_ok-place.field-0 c.in-Ok.place c.requires.as_many c.in_ok-place.ensures c.index.result.now c.in-Ok.is read c.if-index-eq0.true

pub returns-else-index-eq0-clause-taken : goal.returns-else-index-eq0-clause-taken
returns-else-index-eq0-clause-taken c =
    let read : c.index.result.now ≡ get_or c.args.counts.now.items c.in-Ok.place c.index.result.now = search rules in
    let again : c.index_mut.result.now ≡ get_or c.args.counts.now.items c.in-Ok.place c.index_mut.result.now = search rules in
    let some : 0 < c.index.result.now = omega arith in
    one-taken c.args.heap.now c.args.keys.now c.args.counts.now.items (term_of c.args.heap.now c.args.id) c.in_ok-place.field-0 c.in-Ok.place c.requires.as_many c.in_ok-place.ensures c.index.result.now c.index_mut.result.now
    (slice_set c.args.counts.now.items c.in-Ok.place (c.index_mut.result.now - 1)) c.in-Ok.is read some again refl

pub returns-in-Err-clause-taken : goal.returns-in-Err-clause-taken
returns-in-Err-clause-taken c = none-here c.args.heap.now c.args.keys.now c.args.counts.now.items (term_of c.args.heap.now c.args.id) c.in_ok-place.field-0 c.in-Err.field-0 c.requires.as_many c.in_ok-place.ensures c.in-Err.is
