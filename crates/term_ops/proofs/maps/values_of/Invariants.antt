use Rattle.std.proofs.Common.{◌≡◌, map, take}
use Rattle.term_heap.specs.declared.cell.TermId.{TermId}
use Rattle.term_ops.proofs.maps.values_of.Given as goal

abbrev pub invariant-loop-value : goal.invariant-loop-value
invariant-loop-value l = l.values.items ≡ map (λ (e : TermId × TermId). e.1) (take l.value-index l.entries)
