use Rattle.std.proofs.Common.{map, drop}
use Rattle.std.specs.Prelude.{◌↔◌, ◌⊎◌}
use Rattle.beam_code.specs.declared.operand.Src.{Src}
use Rattle.beam_code.specs.Pool.{IsAmong}
use Rattle.slot_kinds.specs.Named.{values}
use Rattle.slot_kinds.proofs.values.add_cases.Given as goal

abbrev pub invariant-loop-value : goal.invariant-loop-value
invariant-loop-value l =
    (e : Src) → (IsAmong e l.seen.keys ⊎ IsAmong e (values (map (λ c. c.0) (drop l.value-index l.cases))))
    ↔ (IsAmong e l.initial.seen.keys ⊎ IsAmong e (values (map (λ c. c.0) l.cases)))
