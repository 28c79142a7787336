use Rattle.std.proofs.Common.{drop, map, ℕ}
use Rattle.beam_code.specs.declared.operand.Src.{Src}
use Rattle.beam_code.specs.Slots.{state_of}
use Rattle.slot_kinds.specs.Tables.{Goes}
use Rattle.slot_kinds.specs.Walks.{ReachesEach}
use Rattle.slot_kinds.proofs.walk.reach_cases.Given as goal

abbrev pub invariant-loop-label : goal.invariant-loop-label
invariant-loop-label l = let labels = map (λ (c : Src × ℕ). c.1) l.cases in Goes (ReachesEach (state_of l.state) labels) (ReachesEach (state_of l.state) (drop l.label-index labels)) l.initial.table l.table
