use Rattle.std.proofs.Common.{ap, ◌∙◌}
use Rattle.class_verifier.specs.Seen.{state_seen}
use Rattle.class_verifier.proofs.Walking.{typed_step, if_some}
use Rattle.class_verifier.proofs.walk.type_step.Goals as goal

pub returns : goal.returns
returns c =
    typed_step c.args.scope.now.class.now c.args.scope.now.method.now c.args.scope.now.frames c.args.is_last c.args.pc c.args.op.now (state_seen c.come_to.new.state) (state_seen c.after.new.self)
    c.is_sound.result _
    (c.in_ok-come_to.ensures ∙ ap (λ b. if_some b (state_seen c.come_to.new.state)) c.if-not-branch.false)
    (c.in_ok-after.ensures c.args.pc ∙ ap (λ b. if_some b (state_seen c.after.new.self)) c.if-not-branch-2.false)
    c.is_sound.ensures
