use Rattle.term_heap.specs.Entries.{entries_at}
use Rattle.term_heap.specs.Maps.{entries_of, pairs_of}
use Rattle.term_heap.specs.View.{term_of}
use Rattle.term_ops.proofs.MapUpdates.{gives-merged}
use Rattle.term_ops.proofs.map_update.merge.Goals as goal

pub returns-clause-answer : goal.returns-clause-answer
returns-clause-answer c =
    let heap = c.args.heap.now in
    gives-merged c.merge.new.self c.in_ok-merge.field-0 (term_of heap c.args.first) (term_of heap c.args.second) (pairs_of heap c.in-Some.firsts) (entries_at heap (entries_of heap c.in-Some-entries.seconds))
    c.in-Some.ensures.term c.in-Some-entries.ensures.term c.in_ok-merge.ensures.term
