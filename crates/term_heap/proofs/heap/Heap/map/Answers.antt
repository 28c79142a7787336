use Rattle.std.proofs.Common.{ap, subst, ◌∙◌}
use Rattle.std.specs.Prelude.{IfOk}
use Rattle.ej_term.specs.Term as term
use Rattle.ej_term.specs.Term.{Pairs}
use Rattle.term_heap.specs.Cells.{from_entries}
use Rattle.term_heap.specs.Entries.{entries_at}
use Rattle.term_heap.specs.View.{Stands}
use Rattle.term_heap.proofs.Putting.{rising-is}
use Rattle.term_heap.proofs.MapTrees.{tree-made, entries-made}
use Rattle.term_heap.proofs.heap.Heap.map.Goals as goal

pub map_of-requires : goal.map_of-requires
map_of-requires c = tree-made c.args.self.now c.collect.new.self c.in_ok-tree.tree c.in_ok-entries.entries.items c.collect.ensures.terms c.in_ok-tree.ensures.held (c.in_ok-tree.ensures.list ∙ c.deref.ensures.value) c.in_ok-entries.ensures.held
    (rising-is (entries_at c.args.self.now c.in_ok-entries.entries.items) (entries_at c.args.self.now c.args.pairs.now) c.in_ok-entries.ensures.map)

pub returns-clause-term : goal.returns-clause-term
returns-clause-term c = subst (λ (ps : Pairs). IfOk c.map_of.result (λ id. Stands c.map_of.new.self id (term.Map ps)))
    (ap from_entries (entries-made c.args.self.now c.collect.new.self c.in_ok-tree.tree c.in_ok-entries.entries.items c.collect.ensures.terms (c.in_ok-tree.ensures.list ∙ c.deref.ensures.value)) ∙ c.in_ok-entries.ensures.map) c.map_of.ensures.term
