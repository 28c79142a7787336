use Rattle.std.proofs.Common.{sym, ◌∙◌}
use Rattle.ej_world.specs.Auto.{all_delivered}
use Rattle.proc_sched.specs.Systems.{kept}
use Rattle.proc_sched.proofs.RoundsLaw.{far-none, if-is, far-delivered, falls-delivered, all-delivered}
use Rattle.proc_sched.proofs.system.System.deliver_all.Goals as goal

pub loop-from-init : goal.loop-from-init
loop-from-init g c = far-none g.P.Process.holds g.P.Process.means (g.P.Process.is_state c.args.code.now) g.met.P.Process.stays all_delivered (kept c.args.self.now.node c.args.self.now.states.items) c.requires

pub first_pair-requires-clause-is_node : goal.first_pair-requires-clause-is_node
first_pair-requires-clause-is_node g c = c.loop-from.invariant.becomes.is.is_kept.is_node

pub first_pair-requires-clause-between : goal.first_pair-requires-clause-between
first_pair-requires-clause-between g c = c.loop-from.invariant.becomes.is.sound.queue

pub deliver-requires : goal.deliver-requires
deliver-requires g c = c.loop-from.invariant.becomes.is

pub close-requires : goal.close-requires
close-requires g c = if-is g.P.Process.holds g.P.Process.means (g.P.Process.is_state c.args.code.now) g.met.P.Process.stays c.in_ok-deliver.field-0 (kept c.loop-from.self.node c.loop-from.self.states.items) (kept c.deliver.new.self.node c.deliver.new.self.states.items) _ c.in_ok-deliver.ensures

pub loop-from-smaller : goal.loop-from-smaller
loop-from-smaller g c =
    falls-delivered g.P.Process.holds g.P.Process.means (g.P.Process.is_state c.args.code.now) g.met.P.Process.stays c.in_ok-deliver.field-0 (kept c.loop-from.self.node c.loop-from.self.states.items) (kept c.deliver.new.self.node c.deliver.new.self.states.items) (kept c.close.new.self.node c.close.new.self.states.items) (c.in-Some.from, c.in-Some.to) (sym c.first_pair.ensures ∙ c.in-Some.is) c.in_ok-deliver.ensures c.in_ok-close.ensures

pub loop-from-preserved : goal.loop-from-preserved
loop-from-preserved g c =
    far-delivered g.P.Process.holds g.P.Process.means (g.P.Process.is_state c.args.code.now) g.met.P.Process.stays c.in_ok-deliver.field-0 (kept c.args.self.now.node c.args.self.now.states.items) (kept c.loop-from.self.node c.loop-from.self.states.items) (kept c.deliver.new.self.node c.deliver.new.self.states.items) (kept c.close.new.self.node c.close.new.self.states.items) (c.in-Some.from, c.in-Some.to) _ c.loop-from.invariant (sym c.first_pair.ensures ∙ c.in-Some.is) c.in_ok-deliver.ensures c.in_ok-close.ensures

pub returns : goal.returns
returns g c = all-delivered g.P.Process.holds g.P.Process.means (g.P.Process.is_state c.args.code.now) g.met.P.Process.stays (kept c.args.self.now.node c.args.self.now.states.items) (kept c.loop-from.self.node c.loop-from.self.states.items) (sym c.first_pair.ensures ∙ c.in_default.is) c.loop-from.invariant
