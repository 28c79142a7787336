use Rattle.std.proofs.Common.{arith}
use Rattle.ej_world.specs.declared.event.Event.TheVariants as event
use Rattle.proc_sched.proofs.NodeLaw.{sent-more}
use Rattle.proc_sched.proofs.node.Node.send_from.Goals as goal

pub loop-at-preserved : goal.loop-at-preserved
loop-at-preserved c =
    sent-more c.args.first c.loop-at.at c.args.self.now c.loop-at.self c.send_at.new.self event.Idle (omega (arith, c.loop-at-test.true, c.len-at-end.ensures, c.args.self.now.events.ok.0)) c.loop-at.invariant c.in_ok-send_at.ensures
