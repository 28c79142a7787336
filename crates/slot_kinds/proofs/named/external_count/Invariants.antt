use Rattle.std.proofs.Common.{map, drop}
use Rattle.std.specs.Prelude.{◌↔◌, ◌⊎◌}
use Rattle.std.specs.List.{flat_map}
use Rattle.beam_code.specs.Code.{function_code}
use Rattle.beam_code.specs.Pool.{Ext, IsAmong, externals_in}
use Rattle.slot_kinds.specs.Named.{code_in}
use Rattle.slot_kinds.proofs.named.external_count.Given as goal

abbrev pub invariant-loop-function : goal.invariant-loop-function
invariant-loop-function l =
    (e : Ext) → (IsAmong e l.seen.keys ⊎ IsAmong e (flat_map externals_in (code_in (map function_code (drop l.function-index l.functions)))))
    ↔ IsAmong e (flat_map externals_in (code_in (map function_code l.functions)))
