use Rattle.std.proofs.Common.{nat_eq, ap, ◌∙◌}
use Rattle.indexmap.specs.IndexSet.{contains}
use Rattle.jvm_code.specs.Verification.{is_start}
use Rattle.class_verifier.proofs.Placed.{placed}
use Rattle.class_verifier.proofs.frames.are_placed.Goals as goal

pub returns : goal.returns
returns c =
    c.all_pass.ensures
    ∙ placed c.args.method.now (contains nat_eq c.in_ok-starts.starts) c.args.frames.now (λ n. c.in_ok-starts.ensures n ∙ ap (λ code. is_start code n) c.as_slice.ensures)
