use Rattle.std.proofs.Common.{◌≡◌, ◌+◌, true}
use Rattle.std.specs.List.{sum_by}
use Rattle.jvm_code.specs.ReadPool.{entries, entry_size}
use Rattle.class_file.proofs.EntriesRead.{onto}
use Rattle.class_file.proofs.pool.entries.Given as goal

-- what is read so far, and what the rest is read to, are what all is read to
abbrev pub invariant-loop-left : goal.invariant-loop-left
invariant-loop-left l = record {
  told : onto l.pool (entries l.due l.left l.source.at l.source.rest) ≡ entries true l.count l.initial.source.at l.initial.source.rest;
  size : l.source.at ≡ l.initial.source.at + sum_by entry_size l.pool;
}

abbrev pub decreases-loop-left : goal.decreases-loop-left
decreases-loop-left l = l.left
