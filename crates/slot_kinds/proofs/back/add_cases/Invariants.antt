use Rattle.std.proofs.Common.{◌≡◌, ℕ, ◌||◌, nat_eq, map, drop}
use Rattle.std.specs.List.{filter}
use Rattle.indexmap.specs.IndexSet.{contains}
use Rattle.beam_code.specs.Labels.{is_in}
use Rattle.slot_kinds.proofs.back.add_cases.Given as goal

abbrev pub invariant-loop-label : goal.invariant-loop-label
invariant-loop-label l =
    (q : ℕ) → (contains nat_eq l.entries q || is_in (filter (contains nat_eq l.passed) (map (λ c. c.1) (drop l.label-index l.cases))) q)
    ≡ (contains nat_eq l.initial.entries q || is_in (filter (contains nat_eq l.passed) (map (λ c. c.1) l.cases)) q)
