use Rattle.std.proofs.Common.{◌≡◌, ℕ, ◌||◌, nat_eq, drop}
use Rattle.std.specs.List.{filter_map}
use Rattle.indexmap.specs.IndexSet.{contains}
use Rattle.beam_code.specs.Labels.{is_in}
use Rattle.beam_code.specs.Pool.{size_in}
use Rattle.slot_kinds.proofs.named.add_sizes.Given as goal

abbrev pub invariant-loop-size : goal.invariant-loop-size
invariant-loop-size l =
    (q : ℕ) → (contains nat_eq l.seen q || is_in (filter_map (λ c. size_in c.0) (drop l.size-index l.cases)) q)
    ≡ (contains nat_eq l.initial.seen q || is_in (filter_map (λ c. size_in c.0) l.cases) q)
