use Rattle.std.proofs.Common.{◌≡◌, ℕ, ◌||◌, false, nat_eq, map, drop}
use Rattle.indexmap.specs.IndexSet.{contains}
use Rattle.beam_code.specs.Code.{opcode}
use Rattle.slot_kinds.specs.Walked.{makes_entries}
use Rattle.slot_kinds.proofs.function.add_all.Given as goal

abbrev pub invariant-loop-instr : goal.invariant-loop-instr
invariant-loop-instr l =
    (label : ℕ) → (contains nat_eq l.entries label || makes_entries (contains nat_eq l.passed) (map opcode (drop l.instr-index l.code)) label)
    ≡ (contains nat_eq l.initial.entries label || makes_entries (λ l. false) (map opcode l.code) label)
