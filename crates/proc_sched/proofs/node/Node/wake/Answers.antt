use Rattle.std.proofs.Common.{ℕ, sym, ◌∙◌}
use Rattle.proc_sched.proofs.ClockLaw.{wakes-none, wakes-more, wakes-all, first-key, first-out, all-later, none-later}
use Rattle.proc_sched.proofs.node.Node.wake.Goals as goal

pub loop-deadline-init : goal.loop-deadline-init
loop-deadline-init c = wakes-none c.args.self.now

pub loop-deadline-preserved : goal.loop-deadline-preserved
loop-deadline-preserved c =
    let now = c.loop-deadline.self in
    let pair : ℕ × ℕ = (c.in-Some.deadline, c.in-Some.number) in
    let first = first-key now.deadlines c.first.result pair (sym c.in-Some.is ∙ c.copied.ensures) c.first.ensures.first c.first.ensures.member c.first.ensures.least in
    wakes-more c.args.self.now now pair c.insert.new.self c.pop_first.new.self c.loop-deadline.invariant c.if-self-deadline.false first.member
    (first-out now.deadlines c.pop_first.new.self c.pop_first.result pair first c.pop_first.ensures.variant c.pop_first.ensures.removal c.pop_first.ensures.updates) c.in_ok-insert.ensures.updates.0

pub returns-then-self-deadline : goal.returns-then-self-deadline
returns-then-self-deadline c =
    let now = c.loop-deadline.self in
    let pair : ℕ × ℕ = (c.in-Some.deadline, c.in-Some.number) in
    let first = first-key now.deadlines c.first.result pair (sym c.in-Some.is ∙ c.copied.ensures) c.first.ensures.first c.first.ensures.member c.first.ensures.least in
    wakes-all c.args.self.now now (all-later now.clock now.deadlines pair first c.if-self-deadline.true) c.loop-deadline.invariant

pub returns-in_default : goal.returns-in_default
returns-in_default c =
    let now = c.loop-deadline.self in
    wakes-all c.args.self.now now (none-later now.clock now.deadlines c.first.result (sym c.copied.ensures ∙ c.in_default.is) c.first.ensures.variant) c.loop-deadline.invariant
