-- A list turned round.
use Rattle.std.proofs.Common.{◌≡◌, List, [], ◌∷◌, map, reverse, Option, Some, refl, ap, subst, ◌∙◌}
use mathlib.Core.List.{reverse_aux}
use Rattle.ej_term.specs.Term.{Term}
use Rattle.ej_term.specs.Lists.{elements, on_elements, list_onto, reverse_onto}
use Rattle.ej_term.specs.Outcome.{Value}
use Rattle.term_heap.specs.declared.cell.TermId.{TermId}
use Rattle.term_heap.specs.declared.heap.Heap.{Heap}
use Rattle.term_heap.specs.View.{Stands, term_of}
use Rattle.term_heap.specs.Held.{terms_at}
use Rattle.term_ops.specs.Answers.{Gives}
use Rattle.term_ops.specs.declared.answer.PureAnswer.TheVariants as a

pub map_reverse : {X Y : Type 0} (f : X → Y) (xs : List X) → map f (reverse xs) ≡ reverse (map f xs)
map_reverse {X = X} f xs = onto xs []
  where
    onto : (ys zs : List X) → map f (reverse_aux ys zs) ≡ reverse_aux (map f ys) (map f zs)
    onto [] zs = refl
    onto (y ∷ ys) zs = onto ys (y ∷ zs)

-- a list turned round, in front of a tail
pub gives-turned : (heap new : Heap) (made : TermId) (ids turned : List TermId) (front tail : Term) → Some (terms_at heap ids) ≡ elements front → turned ≡ reverse ids
    → Stands new made (list_onto (terms_at heap turned) tail) → Gives new (a.Value made) (reverse_onto front tail)
gives-turned heap new made ids turned front tail e is made_is =
    subst (λ (o : Option (List Term)). Gives new (a.Value made) (on_elements (λ parts. Value (list_onto (reverse parts) tail)) o)) e
    (subst (λ (ts : List Term). Stands new made (list_onto ts tail)) (ap (λ (zs : List TermId). terms_at heap zs) is ∙ map_reverse (term_of heap) ids) made_is)
