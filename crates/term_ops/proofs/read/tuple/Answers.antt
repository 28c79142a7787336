use Rattle.std.proofs.Common.{◌≡◌, List, map, Some, sym, ap, subst, ◌∙◌}
use Rattle.std.specs.List.{All}
use Rattle.ej_term.specs.Term.{Term, Tuple, terms}
use Rattle.term_heap.specs.View.{terms_in, parts_in, texts_in, term_of, cell_term}
use Rattle.term_heap.specs.declared.cell.TermId.{TermId}
use Rattle.term_heap.proofs.Made.{IsId, term_at}
use Rattle.term_ops.specs.Parts.{tuple_elements}
use Rattle.term_ops.proofs.ReadTuples.{AreParts, tuple-parts, items-terms}
use Rattle.term_ops.proofs.read.tuple.Goals as goal

opened : (c : goal.In-Tuple) → (xs : List Term) × (term_of c.args.heap.now c.args.id ≡ Tuple (terms xs)) × AreParts (parts_in c.args.heap.now).ids (terms_in c.args.heap.now) c.in-Tuple.first c.in-Tuple.count xs
opened c = tuple-parts (texts_in c.args.heap.now) (parts_in c.args.heap.now) (terms_in c.args.heap.now) c.in-Tuple.first c.in-Tuple.count (term_of c.args.heap.now c.args.id)
    (ap (cell_term c.args.heap.now) (sym c.in-Tuple.is) ∙ c.cell.ensures.term)

pub parts-requires : goal.parts-requires
parts-requires c = (opened c).2.within

pub returns-in-Tuple-clause-held : goal.returns-in-Tuple-clause-held
returns-in-Tuple-clause-held c =
    let o = tuple-parts (texts_in c.args.heap.now) (parts_in c.args.heap.now) (terms_in c.args.heap.now) c.in-Tuple.first c.in-Tuple.count (term_of c.args.heap.now c.args.id)
    (ap (cell_term c.args.heap.now) (sym c.in-Tuple.is) ∙ c.cell.ensures.term) in
    subst (λ (ids : List TermId). All (IsId (terms_in c.args.heap.now)) ids) (sym c.parts.ensures) o.2.held

pub returns-in-Tuple-clause-elements : goal.returns-in-Tuple-clause-elements
returns-in-Tuple-clause-elements c =
    let o = tuple-parts (texts_in c.args.heap.now) (parts_in c.args.heap.now) (terms_in c.args.heap.now) c.in-Tuple.first c.in-Tuple.count (term_of c.args.heap.now c.args.id)
    (ap (cell_term c.args.heap.now) (sym c.in-Tuple.is) ∙ c.cell.ensures.term) in
    ap Some (ap (map (term_at (terms_in c.args.heap.now))) c.parts.ensures ∙ o.2.terms ∙ sym (items-terms o.0)) ∙ ap tuple_elements (sym o.1)
