use Rattle.std.proofs.Common.{◌≡◌, map, take}
use Rattle.term_heap.specs.declared.cell.TermId.{TermId}
use Rattle.term_ops.proofs.maps.keys_of.Given as goal

abbrev pub invariant-loop-key : goal.invariant-loop-key
invariant-loop-key l = l.keys.items ≡ map (λ (e : TermId × TermId). e.0) (take l.key-index l.entries)
