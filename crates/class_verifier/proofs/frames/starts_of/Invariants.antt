use Rattle.std.proofs.Common.{nat_eq, drop}
use Rattle.indexmap.specs.IndexSet.{contains}
use Rattle.class_verifier.proofs.Starts.{Gathered}
use Rattle.class_verifier.proofs.frames.starts_of.Given as goal

abbrev pub invariant-loop-offset : goal.invariant-loop-offset
invariant-loop-offset l = Gathered (contains nat_eq l.starts) (drop l.offset-index l.code) l.code
