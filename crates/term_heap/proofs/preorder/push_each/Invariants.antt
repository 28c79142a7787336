use Rattle.std.proofs.Common.{◌≡◌, ◌++◌, map, take}
use Rattle.term_heap.proofs.preorder.push_each.Given as goal

abbrev pub invariant-loop-term : goal.invariant-loop-term
invariant-loop-term l = map (λ x. x.now) l.pending.items ≡ map (λ x. x.now) l.initial.pending.items ++ take l.term-index l.terms
