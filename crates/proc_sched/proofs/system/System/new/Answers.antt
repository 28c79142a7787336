use Rattle.proc_sched.proofs.SystemLaw.{empty-system}
use Rattle.proc_sched.proofs.system.System.new.Goals as goal

pub returns-clause-is : goal.returns-clause-is
returns-clause-is g c code =
    empty-system g.P.Process.holds g.P.Process.means (g.P.Process.is_state code) (g.P.Process.code code) (g.met.P.Process.lawful code) c.new.result c.new-2.result.items c.new.ensures.is_node c.new.ensures.world c.new-2.ensures.items
