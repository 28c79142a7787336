use Rattle.proc_sched.specs.Systems.{kept}
use Rattle.proc_sched.proofs.WorldLaw.{shows-run}
use Rattle.proc_sched.proofs.world.World.new.Goals as goal

pub returns-clause-is : goal.returns-clause-is
returns-clause-is g c e = c.new.ensures.is c.args.code

pub returns-clause-shows : goal.returns-clause-shows
returns-clause-shows g c = shows-run g.P.Process.means (g.P.Process.code c.args.code) (kept c.new.result.node c.new.result.states.items) c.new.ensures.empty
