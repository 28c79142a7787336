use Rattle.std.proofs.Common.{length, ap, arith}
use Rattle.std.specs.Global.{Vec}
use Rattle.ej_world.specs.declared.event.Event.{Event}
use Rattle.term_heap.specs.declared.cell.TermId.{TermId}
use Rattle.proc_sched.proofs.SpawnLaw.{spawned-none, spawned-more, spawned-all}
use Rattle.proc_sched.proofs.system.System.make_spawned.Goals as goal

pub loop-at-init : goal.loop-at-init
loop-at-init g c = spawned-none g.P.Process.holds g.P.Process.means (g.P.Process.code c.args.code.now) c.args.first _ c.requires

pub make_at-requires-clause-at : goal.make_at-requires-clause-at
make_at-requires-clause-at g c = omega (arith, c.loop-at-test.true, c.len-at-end.ensures, c.args.self.now.node.events.ok.0, ap (λ (es : Vec (Event TermId)). length es.items) c.loop-at.invariant.events)

pub make_at-requires-clause-may : goal.make_at-requires-clause-may
make_at-requires-clause-may g c = c.loop-at.invariant.may

pub loop-at-preserved : goal.loop-at-preserved
loop-at-preserved g c = spawned-more g.P.Process.holds g.P.Process.means (g.P.Process.code c.args.code.now) c.args.first c.loop-at.at _ _ _ c.loop-at.invariant c.in_ok-make_at.ensures

pub returns : goal.returns
returns g c =
    spawned-all g.P.Process.holds g.P.Process.means (g.P.Process.code c.args.code.now) c.args.first c.loop-at.at _ _
    (omega (arith, c.loop-at-test.false, c.len-at-end.ensures, c.args.self.now.node.events.ok.0, ap (λ (es : Vec (Event TermId)). length es.items) c.loop-at.invariant.events)) c.loop-at.invariant
