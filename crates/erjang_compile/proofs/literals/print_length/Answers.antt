use Rattle.std.proofs.Common.{◌∙◌}
use Rattle.erjang_compile.proofs.PrintBytes.{loaded-length, no-length}
use Rattle.erjang_compile.proofs.literals.print_length.Goals as goal

pub returns-in-Ok : goal.returns-in-Ok
returns-in-Ok c = loaded-length c.args.term.now _ _ _ c.in-Ok.ensures.loads.1 c.in_ok-print-in-Ok.ensures (c.len.ensures ∙ c.in_ok-print-in-Ok.field-0.ok.0)

pub returns-in-Err-Opaque : goal.returns-in-Err-Opaque
returns-in-Err-Opaque c = no-length c.args.term.now (rw c.in-Err-Opaque.field-0-is at c.in-Err-Opaque.ensures.loads)
