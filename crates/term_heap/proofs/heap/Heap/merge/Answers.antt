use Rattle.std.proofs.Common.{◌≡◌, List, ap, ap₂, sym, subst, ◌∙◌}
use Rattle.std.specs.Prelude.{IfOk}
use Rattle.ej_term.specs.Term as term
use Rattle.ej_term.specs.Term.{Term, Pairs}
use Rattle.ej_term.specs.Maps.{put_each}
use Rattle.term_heap.specs.Cells.{from_entries}
use Rattle.term_heap.specs.Entries.{Rising, entries_at}
use Rattle.term_heap.specs.View.{Stands}
use Rattle.term_heap.specs.Maps.{entries_of, pairs_of}
use Rattle.term_heap.proofs.Putting.{rising-put_each}
use Rattle.term_heap.proofs.MapTrees.{tree-made, entries-made, Ids}
use Rattle.term_heap.proofs.heap.Heap.merge.Goals as goal

pub map_of-requires : goal.map_of-requires
map_of-requires c =
    let heap = c.args.self.now in
    let merged : from_entries (entries_at heap c.in_ok-merged.merged.items) ≡ put_each (pairs_of heap c.args.first) (entries_at heap (entries_of heap c.args.second)) =
    c.in_ok-merged.ensures.map
    ∙ ap₂ (λ (xs ys : List Ids). put_each (from_entries (entries_at heap xs)) (entries_at heap ys)) (c.deref-2.ensures.value ∙ c.in_ok-firsts.ensures) (c.deref-3.ensures.value ∙ c.in_ok-seconds.ensures) in
    tree-made heap c.collect.new.self c.in_ok-tree.tree c.in_ok-merged.merged.items c.collect.ensures.terms c.in_ok-tree.ensures.held (c.in_ok-tree.ensures.list ∙ c.deref-4.ensures.value) c.in_ok-merged.ensures.held
    (subst Rising (sym merged) (rising-put_each (pairs_of heap c.args.first) (entries_at heap (entries_of heap c.args.second)) c.requires.first.rises))

pub returns-clause-term : goal.returns-clause-term
returns-clause-term c =
    let heap = c.args.self.now in
    let merged : from_entries (entries_at heap c.in_ok-merged.merged.items) ≡ put_each (pairs_of heap c.args.first) (entries_at heap (entries_of heap c.args.second)) =
    c.in_ok-merged.ensures.map
    ∙ ap₂ (λ (xs ys : List Ids). put_each (from_entries (entries_at heap xs)) (entries_at heap ys)) (c.deref-2.ensures.value ∙ c.in_ok-firsts.ensures) (c.deref-3.ensures.value ∙ c.in_ok-seconds.ensures) in
    subst (λ (ps : Pairs). IfOk c.map_of.result (λ id. Stands c.map_of.new.self id (term.Map ps)))
    (ap from_entries (entries-made c.args.self.now c.collect.new.self c.in_ok-tree.tree c.in_ok-merged.merged.items c.collect.ensures.terms (c.in_ok-tree.ensures.list ∙ c.deref-4.ensures.value)) ∙ merged) c.map_of.ensures.term
