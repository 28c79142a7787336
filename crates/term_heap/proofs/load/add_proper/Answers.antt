use Rattle.std.proofs.Common.{List, Some, ap₂}
use Rattle.ej_term.specs.Term.{Term}
use Rattle.ej_term.specs.Lists.{list_onto}
use Rattle.term_heap.specs.View.{terms_in}
use Rattle.term_heap.proofs.Made.{made}
use Rattle.term_heap.proofs.Kept.{kept-terms, stands-term}
use Rattle.term_heap.proofs.load.add_proper.Goals as goal

pub returns-clause-term : goal.returns-clause-term
returns-clause-term c = made c.list_onto.result (terms_in c.list_onto.new.self) _ _ c.list_onto.ensures.term
    (ap₂ (λ (ts : List Term) (t : Term). Some (list_onto ts t)) (kept-terms c.args.heap.now c.nil.new.self c.args.elements.now c.nil.ensures.keeps c.requires) (stands-term c.nil.new.self c.in_ok-nil.nil _ c.in_ok-nil.ensures.term))
