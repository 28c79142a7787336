use Rattle.std.proofs.Common.{map, sym, subst, ap, ◌∙◌}
use Rattle.stack_maps.specs.Read.{seen}
use Rattle.jvm_code.specs.Verification.{are_placed}
use Rattle.class_verifier.specs.Framed.{Listed}
use Rattle.class_verifier.proofs.Placed.{no_frames, unlisted}
use Rattle.class_verifier.proofs.frames.frames.Goals as goal

pub returns-in_err-frames : goal.returns-in_err-frames
returns-in_err-frames c =
    unlisted c.args.class.now c.args.method.now c.as_slice.result.now c.in_err-frames.field-0.0 c.from_residual.result c.as_slice.ensures c.in_err-frames.ensures c.from_residual.ensures.1

pub returns : goal.returns
returns c =
    no_frames c.args.class.now c.args.method.now (map seen c.in_ok-frames.frames)
    (subst (λ p. Listed p c.args.method.now.maps (map seen c.in_ok-frames.frames)) c.as_slice.ensures c.in_ok-frames.ensures)
    (ap (λ fs. are_placed c.args.method.now (map seen fs)) (sym c.as_slice-2.ensures) ∙ sym c.in_ok-are_placed.ensures ∙ c.if-branch.false)
