use Rattle.std.proofs.Common.{◌≡◌, ℕ, ◌||◌, nat_eq, map, drop}
use Rattle.std.specs.List.{flat_map}
use Rattle.indexmap.specs.IndexSet.{contains}
use Rattle.beam_code.specs.Code.{opcode}
use Rattle.beam_code.specs.Labels.{is_in}
use Rattle.beam_code.specs.Pool.{numbers_in}
use Rattle.slot_kinds.proofs.named.add_code.Given as goal

abbrev pub invariant-loop-instr : goal.invariant-loop-instr
invariant-loop-instr l =
    (q : ℕ) → (contains nat_eq l.seen q || is_in (flat_map numbers_in (map opcode (drop l.instr-index l.code))) q)
    ≡ (contains nat_eq l.initial.seen q || is_in (flat_map numbers_in (map opcode l.code)) q)
