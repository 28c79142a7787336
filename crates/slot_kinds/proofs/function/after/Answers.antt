use Rattle.std.proofs.Common.{sym, ap, ◌∙◌}
use Rattle.beam_code.specs.FlowParts.{falls_as, left}
use Rattle.beam_code.specs.Seen.{opcode_seen}
use Rattle.beam_code.specs.Slots.{state_of}
use Rattle.slot_kinds.proofs.Walking.{after-row, after-none}
use Rattle.slot_kinds.proofs.function.after.Goals as goal

pub returns-then-not-holds : goal.returns-then-not-holds
returns-then-not-holds c = after-none (opcode_seen c.args.opcode) (state_of c.args.before) (sym c.holds.ensures ∙ c.if-not-holds.true)

pub returns-then-branch : goal.returns-then-branch
returns-then-branch c =
    ap (λ b. falls_as b (state_of c.leave.new.state)) (sym c.if-branch.true) ∙ c.in_ok-leave.ensures ∙ ap (left (opcode_seen c.args.opcode)) c.enter.ensures
    ∙ after-row (opcode_seen c.args.opcode) (state_of c.args.before) (sym c.holds.ensures ∙ c.if-not-holds.false)

pub returns : goal.returns
returns c =
    ap (λ b. falls_as b (state_of c.leave.new.state)) (sym c.if-branch.false) ∙ c.in_ok-leave.ensures ∙ ap (left (opcode_seen c.args.opcode)) c.enter.ensures
    ∙ after-row (opcode_seen c.args.opcode) (state_of c.args.before) (sym c.holds.ensures ∙ c.if-not-holds.false)
