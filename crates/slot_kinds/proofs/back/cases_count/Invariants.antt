use Rattle.std.proofs.Common.{◌≡◌, ◌≤◌, ◌+◌, nat_eq, length, map, drop}
use Rattle.std.specs.List.{filter}
use Rattle.indexmap.specs.IndexSet.{contains}
use Rattle.slot_kinds.proofs.back.cases_count.Given as goal

abbrev pub invariant-loop-label : goal.invariant-loop-label
invariant-loop-label l = record {
  within : l.count ≤ l.label-index;
  is : l.count + length (filter (contains nat_eq l.passed) (map (λ c. c.1) (drop l.label-index l.cases))) ≡ length (filter (contains nat_eq l.passed) (map (λ c. c.1) l.cases));
}
