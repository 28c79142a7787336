use Rattle.std.proofs.Common.{◌≡◌, Some, subst}
use Rattle.term_heap.specs.View.{term_of, cell_term}
use Rattle.term_heap.specs.declared.cell.Cell.{Cell}
use Rattle.term_heap.proofs.MapTrees.{cell-tree}
use Rattle.term_heap.proofs.heap.Heap.entries.Goals as goal

pub returns-in-Map-clause-map : goal.returns-in-Map-clause-map
returns-in-Map-clause-map c = (cell-tree c.args.self.now c.tree_at.result c.in-Map.first c.in-Map.field-1 (term_of c.args.self.now c.args.id) (subst (λ (cell : Cell). cell_term c.args.self.now cell ≡ Some (term_of c.args.self.now c.args.id)) c.in-Map.is c.cell.ensures.term) c.tree_at.ensures).0

pub returns-in-Map-clause-term : goal.returns-in-Map-clause-term
returns-in-Map-clause-term c = (cell-tree c.args.self.now c.tree_at.result c.in-Map.first c.in-Map.field-1 (term_of c.args.self.now c.args.id) (subst (λ (cell : Cell). cell_term c.args.self.now cell ≡ Some (term_of c.args.self.now c.args.id)) c.in-Map.is c.cell.ensures.term) c.tree_at.ensures).1
