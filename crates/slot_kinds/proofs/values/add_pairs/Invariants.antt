use Rattle.std.proofs.Common.{drop}
use Rattle.std.specs.Prelude.{◌↔◌, ◌⊎◌}
use Rattle.beam_code.specs.declared.operand.Src.{Src}
use Rattle.beam_code.specs.Pool.{IsAmong, both}
use Rattle.slot_kinds.specs.Named.{values}
use Rattle.slot_kinds.proofs.values.add_pairs.Given as goal

abbrev pub invariant-loop-key : goal.invariant-loop-key
invariant-loop-key l =
    (e : Src) → (IsAmong e l.seen.keys ⊎ IsAmong e (values (both (drop l.key-index l.pairs))))
    ↔ (IsAmong e l.initial.seen.keys ⊎ IsAmong e (values (both l.pairs)))
