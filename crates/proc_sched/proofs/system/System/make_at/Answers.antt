use Rattle.proc_sched.proofs.NodeLaw.{then-ok}
use Rattle.proc_sched.proofs.SpawnLaw.{spawns-none, spawn-next, spawn-may, spawns-next}
use Rattle.proc_sched.proofs.system.System.make_at.Goals as goal

pub add-requires-clause-is : goal.add-requires-clause-is
add-requires-clause-is g c =
    (_, spawn-next g.P.Process.holds g.P.Process.means (g.P.Process.code c.args.code.now) c.args.at _ c.index.result.now c.requires.at c.index.ensures c.requires.may c.in-Spawn.field-0 c.in-Spawn.field-1 c.in-Spawn.how c.in-Spawn.is)

pub add-requires-clause-may : goal.add-requires-clause-may
add-requires-clause-may g c =
    spawn-may g.P.Process.holds g.P.Process.means (g.P.Process.code c.args.code.now) c.args.at _ c.index.result.now c.requires.at c.index.ensures c.requires.may c.in-Spawn.field-0 c.in-Spawn.field-1 c.in-Spawn.how c.in-Spawn.is

pub returns-in-Spawn : goal.returns-in-Spawn
returns-in-Spawn g c =
    then-ok c.add.result
    (spawns-next g.P.Process.holds g.P.Process.means (g.P.Process.code c.args.code.now) c.args.at _ c.index.result.now c.requires.at c.index.ensures c.requires.may c.in-Spawn.field-0 c.in-Spawn.field-1 c.in-Spawn.how c.in-Spawn.is _)
    c.add.ensures

pub returns-in_default : goal.returns-in_default
returns-in_default g c = spawns-none g.P.Process.holds g.P.Process.means (g.P.Process.code c.args.code.now) c.args.at _ c.index.result.now c.requires.at c.index.ensures c.requires.may c.in_default.not-Spawn
