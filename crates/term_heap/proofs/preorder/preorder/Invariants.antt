use Rattle.std.proofs.Common.{◌≡◌, map, option_map}
use Rattle.std.specs.List.{list_any}
use Rattle.ej_term.specs.AsmValue.{value, has_opaque}
use Rattle.term_heap.specs.Preorder.{one}
use Rattle.term_heap.proofs.Stacking.{so_far, counts}
use Rattle.term_heap.proofs.preorder.preorder.Given as goal

abbrev pub invariant-loop-term : goal.invariant-loop-term
invariant-loop-term l =
    (so_far (map (λ x. x.now) l.order.items) (map (λ x. x.now) l.pending.items) ≡ option_map one (value l.fn.t))
    × (has_opaque l.fn.t ≡ list_any has_opaque (map (λ x. x.now) l.pending.items))

abbrev pub decreases-loop-term : goal.decreases-loop-term
decreases-loop-term l = counts (map (λ x. x.now) l.pending.items)
