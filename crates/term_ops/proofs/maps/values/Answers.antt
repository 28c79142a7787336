use Rattle.std.proofs.Common.{◌≡◌, List, ap, sym, subst, ◌∙◌}
use Rattle.ej_term.specs.Term.{Map}
use Rattle.term_heap.specs.Cells.{from_entries}
use Rattle.term_heap.specs.Entries.{HoldsEntries, entries_at}
use Rattle.term_heap.specs.Held.{HoldsEach}
use Rattle.term_heap.specs.Maps.{entries_of}
use Rattle.term_heap.specs.View.{term_of}
use Rattle.term_heap.specs.declared.cell.TermId.{TermId}
use Rattle.term_ops.proofs.MapsAnswers.{values-held, gives-values}
use Rattle.term_ops.proofs.maps.values.Goals as goal

pub list-requires : goal.list-requires
list-requires c =
    let heap = c.args.heap.now in
    let are : c.deref.result.now ≡ entries_of heap c.in-Some.entries = c.deref.ensures.value ∙ c.in_ok-entries.ensures in
    subst (λ (ids : List TermId). HoldsEach heap ids) (sym (c.deref-2.ensures.value ∙ c.in_ok-values.ensures))
    (values-held heap c.deref.result.now (subst (λ (es : List (TermId × TermId)). HoldsEntries heap es) (sym are) c.in-Some.ensures.map.ids))

pub returns-clause-answer : goal.returns-clause-answer
returns-clause-answer c =
    let heap = c.args.heap.now in
    let are : c.deref.result.now ≡ entries_of heap c.in-Some.entries = c.deref.ensures.value ∙ c.in_ok-entries.ensures in
    gives-values heap c.list.new.heap c.in_ok-list.field-0 (term_of heap c.args.map) c.deref.result.now c.deref-2.result.now
    (c.in-Some.ensures.term ∙ ap (λ (es : List (TermId × TermId)). Map (from_entries (entries_at heap es))) (sym are)) (c.deref-2.ensures.value ∙ c.in_ok-values.ensures) c.in_ok-list.ensures.list
