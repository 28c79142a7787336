use Rattle.std.proofs.Common.{◌≡◌, ℕ, ◌||◌, nat_eq, map, drop}
use Rattle.std.specs.List.{flat_map}
use Rattle.indexmap.specs.IndexSet.{contains}
use Rattle.beam_code.specs.Code.{function_code}
use Rattle.beam_code.specs.Labels.{is_in}
use Rattle.beam_code.specs.Pool.{numbers_in}
use Rattle.slot_kinds.specs.Named.{code_in}
use Rattle.slot_kinds.proofs.named.number_count.Given as goal

abbrev pub invariant-loop-function : goal.invariant-loop-function
invariant-loop-function l =
    (q : ℕ) → (contains nat_eq l.seen q || is_in (flat_map numbers_in (code_in (map function_code (drop l.function-index l.functions)))) q)
    ≡ is_in (flat_map numbers_in (code_in (map function_code l.functions))) q
