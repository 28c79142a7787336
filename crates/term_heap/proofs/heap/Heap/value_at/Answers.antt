use Rattle.std.proofs.Common.{◌≡◌, Some, slice_get, option_map, ap, subst, ◌∙◌}
use Rattle.std.proofs.lemmas.Option.{slice_get-map}
use Rattle.forest.specs.View as forest
use Rattle.forest.specs.declared.forest.Forest.{Forest}
use Rattle.term_heap.specs.Entries.{entries_at, entry_of}
use Rattle.term_heap.specs.Maps.{listed, IsPlace, StandsAt, GoesTo}
use Rattle.term_heap.specs.View.{term_of}
use Rattle.term_heap.proofs.Searching.{value-here, no-value}
use Rattle.term_heap.proofs.MapTrees.{Ids}
use Rattle.term_heap.proofs.heap.Heap.value_at.Goals as goal

pub returns-in-Ok-clause-value : goal.returns-in-Ok-clause-value
returns-in-Ok-clause-value c =
    let heap = c.args.self.now in
    let tree = c.args.entries.tree in
    let at : StandsAt (term_of heap c.args.key) (entries_at heap (listed heap tree)) c.in-Ok.place = subst (IsPlace (term_of heap c.args.key) (entries_at heap (listed heap tree))) c.in-Ok.is c.in_ok-place.ensures in
    let here : slice_get (listed heap tree) c.in-Ok.place ≡ Some c.get.result = subst (λ (m : Forest Ids). slice_get (forest.list_of m tree) c.in-Ok.place ≡ Some c.get.result) c.maps.ensures c.get.ensures in
    value-here (term_of heap c.args.key) (entries_at heap (listed heap tree)) c.in-Ok.place (entry_of heap c.get.result) at (slice_get-map (entry_of heap) (listed heap tree) c.in-Ok.place ∙ ap (option_map (entry_of heap)) here)

pub returns-in-Err-clause-value : goal.returns-in-Err-clause-value
returns-in-Err-clause-value c =
    let heap = c.args.self.now in
    let tree = c.args.entries.tree in
    let at : GoesTo (term_of heap c.args.key) (entries_at heap (listed heap tree)) c.in-Err.field-0 = subst (IsPlace (term_of heap c.args.key) (entries_at heap (listed heap tree))) c.in-Err.is c.in_ok-place.ensures in
    no-value (term_of heap c.args.key) (entries_at heap (listed heap tree)) c.in-Err.field-0 at
