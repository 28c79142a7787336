use Rattle.std.proofs.Common.{ℕ, ◌≡◌, ◌+◌, ◌*◌, sym, ap, ◌∙◌, arith}
use Rattle.beam_code.specs.Seen.{opcode_seen}
use Rattle.beam_code.specs.Weights.{saturated}
use Rattle.slot_kinds.specs.Walked.{saved_again, wide_part}
use Rattle.slot_kinds.proofs.Saturating.{times-is}
use Rattle.slot_kinds.proofs.weigh.wide_part.Goals as goal

from-zero : (n : ℕ) → 0 + n ≡ n
from-zero n = omega arith

pub returns : goal.returns
returns c =
    times-is _ _ _ _ _ c.saturating_mul.ensures c.line.ensures c.saved_again.ensures
    ∙ ap (λ m. saturated (m * saved_again (opcode_seen c.args.opcode) c.args.counts c.args.back)) (from-zero (8 * c.args.counts.gaps))
    ∙ ap (λ b. saturated (wide_part b (opcode_seen c.args.opcode) c.args.counts c.args.back)) (sym c.if-not-wide.false)
