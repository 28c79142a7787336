use Rattle.std.proofs.Common.{ap, sym, ◌∙◌}
use Rattle.genop_table.specs.Builtins.{builtin_number}
use Rattle.beam_code.specs.Flow.{builtin_called}
use Rattle.beam_code.specs.Seen.{callee_seen}
use Rattle.beam_code.proofs.flow.builtin_called.Goals as goal

pub returns-in-External : goal.returns-in-External
returns-in-External c =
    c.builtin.ensures
    ∙ (λ i. builtin_number ((c.as_bytes.ensures.value ∙ c.as_str.ensures.bytes) i) ((c.as_bytes-in-External.ensures.value ∙ c.as_str-in-External.ensures.bytes) i) c.in-External.arity)
    ∙ ap (λ q. builtin_called (callee_seen q)) (sym c.in-External.is)
