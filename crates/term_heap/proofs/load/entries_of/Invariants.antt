use Rattle.std.proofs.Common.{◌≡◌, ◌++◌, ◌*◌, drop}
use Rattle.term_heap.specs.Preorder.{paired}
use Rattle.term_heap.proofs.load.entries_of.Given as goal

abbrev pub invariant-loop-at : goal.invariant-loop-at
invariant-loop-at l = l.entries.items ++ paired (drop (2 * l.at) l.parts) ≡ paired l.parts
