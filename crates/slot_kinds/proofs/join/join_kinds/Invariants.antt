use Rattle.slot_kinds.specs.Joins.{AreMetTo}
use Rattle.slot_kinds.proofs.join.join_kinds.Given as goal

abbrev pub invariant-loop-at : goal.invariant-loop-at
invariant-loop-at l = AreMetTo l.at l.kinds l.others l.joined l.changed
