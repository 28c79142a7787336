use Rattle.std.proofs.Common.{map, drop}
use Rattle.std.specs.Prelude.{◌↔◌, ◌⊎◌}
use Rattle.beam_code.specs.declared.operand.Src.{Src}
use Rattle.beam_code.specs.Pool.{IsAmong}
use Rattle.slot_kinds.specs.Named.{values}
use Rattle.slot_kinds.proofs.values.add_keys.Given as goal

abbrev pub invariant-loop-key : goal.invariant-loop-key
invariant-loop-key l =
    (e : Src) → (IsAmong e l.seen.keys ⊎ IsAmong e (values (map (λ g. g.0) (drop l.key-index l.gets))))
    ↔ (IsAmong e l.initial.seen.keys ⊎ IsAmong e (values (map (λ g. g.0) l.gets)))
