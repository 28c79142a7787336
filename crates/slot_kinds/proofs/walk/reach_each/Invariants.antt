use Rattle.std.proofs.Common.{drop}
use Rattle.beam_code.specs.Slots.{state_of}
use Rattle.slot_kinds.specs.Tables.{Goes}
use Rattle.slot_kinds.specs.Walks.{ReachesEach}
use Rattle.slot_kinds.proofs.walk.reach_each.Given as goal

abbrev pub invariant-loop-label : goal.invariant-loop-label
invariant-loop-label l = Goes (ReachesEach (state_of l.state) l.labels) (ReachesEach (state_of l.state) (drop l.label-index l.labels)) l.initial.table l.table
