use Rattle.std.proofs.Common.{◌≡◌, ◌≤◌, length}
use Rattle.std.specs.Ordering.{nat_cmp}
use Rattle.std.specs.Cmp.Lexicographic.{slice_cmp}
use Rattle.std.specs.FinMap.{find}
use Rattle.std.specs.VecDeque.Iter.{deque_iter_rest}
use Rattle.ej_outside.specs.Store.{entries_in, total_size}
use Rattle.ej_outside.proofs.store.find_put.Given as goal

-- what is left of the text holds the puts that are left, and the name is to be found among them
abbrev pub invariant-loop-place : goal.invariant-loop-place
invariant-loop-place l = record {
  fits : total_size (deque_iter_rest l.place-iterator) ≤ length l.rest;
  same : find (slice_cmp nat_cmp) l.name (entries_in l.rest (deque_iter_rest l.place-iterator)) ≡ find (slice_cmp nat_cmp) l.name (entries_in l.text l.lengths.items);
}
