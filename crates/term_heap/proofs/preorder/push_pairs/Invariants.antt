use Rattle.std.proofs.Common.{◌≡◌, ◌++◌, map, take}
use Rattle.term_heap.specs.Preorder.{flat}
use Rattle.term_heap.proofs.preorder.push_pairs.Given as goal

abbrev pub invariant-loop-key : goal.invariant-loop-key
invariant-loop-key l = map (λ x. x.now) l.pending.items ≡ map (λ x. x.now) l.initial.pending.items ++ flat (take l.key-index l.pairs)
