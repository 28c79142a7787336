use Rattle.std.proofs.Common.{◌≡◌, ◌≤◌, take}
use Rattle.std.specs.List.{count_by}
use Rattle.slot_kinds.specs.Counted.{is_defined}
use Rattle.slot_kinds.proofs.counts.defined.Given as goal

abbrev pub invariant-loop-kind : goal.invariant-loop-kind
invariant-loop-kind l = record {
  within : l.count ≤ l.kind-index;
  is : l.count ≡ count_by is_defined (take l.kind-index l.kinds);
}
