use Rattle.std.proofs.Common.{inl, inr}
use Rattle.slot_kinds.proofs.JoinLaw.{rises-from, one-bit, other-bit}
use Rattle.slot_kinds.proofs.join.join.Goals as goal

pub returns-then-xs_changed : goal.returns-then-xs_changed
returns-then-xs_changed c =
    rises-from c.args.state.now c.args.other.now c.make.result
    c.as_slice.result.now c.as_slice-2.result.now c.as_slice-in-Ok.result.now c.as_slice-in-Ok-2.result.now c.in-Ok.xs c.in-Ok-join_kinds.ys c.in-Ok.xs_changed c.in-Ok-join_kinds.ys_changed
    c.as_slice.ensures c.as_slice-2.ensures c.as_slice-in-Ok.ensures c.as_slice-in-Ok-2.ensures
    (c.is_same_frame.ensures.0 c.if-not-is_same_frame.false)
    c.in-Ok.ensures c.in-Ok-join_kinds.ensures
    (elim c.then-xs_changed.either [ inl p ↦ one-bit c.in-Ok.xs_changed c.in-Ok-join_kinds.ys_changed p | inr q ↦ other-bit c.in-Ok.xs_changed c.in-Ok-join_kinds.ys_changed q.1 ])
    c.make.ensures.is c.make.ensures.xs_front c.make.ensures.ys_same
