use Rattle.std.proofs.Common.{drop}
use Rattle.std.specs.Prelude.{◌↔◌, ◌⊎◌}
use Rattle.beam_code.specs.declared.operand.Src.{Src}
use Rattle.beam_code.specs.Pool.{IsAmong}
use Rattle.slot_kinds.specs.Named.{values}
use Rattle.slot_kinds.proofs.values.add_each.Given as goal

abbrev pub invariant-loop-source : goal.invariant-loop-source
invariant-loop-source l =
    (e : Src) → (IsAmong e l.seen.keys ⊎ IsAmong e (values (drop l.source-index l.sources)))
    ↔ (IsAmong e l.initial.seen.keys ⊎ IsAmong e (values l.sources))
