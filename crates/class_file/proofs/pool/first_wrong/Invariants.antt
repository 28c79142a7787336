use Rattle.std.proofs.Common.{◌≡◌, ◌+◌, drop}
use Rattle.std.specs.List.{sum_by}
use Rattle.jvm_code.specs.ReadPool.{first_wrong, entry_size}
use Rattle.class_file.proofs.pool.first_wrong.Given as goal

-- what is wrong first in the rest is so in all, and the sizes of the rest are left
abbrev pub invariant-loop-entry : goal.invariant-loop-entry
invariant-loop-entry l = record {
  told : first_wrong l.pool l.place (drop l.entry-index l.pool) ≡ first_wrong l.pool l.at l.pool;
  size : l.place + sum_by entry_size (drop l.entry-index l.pool) ≡ l.at + sum_by entry_size l.pool;
}
