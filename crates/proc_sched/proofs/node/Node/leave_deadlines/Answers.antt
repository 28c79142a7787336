use Rattle.std.proofs.Common.{refl, sym}
use Rattle.proc_sched.specs.Stands.{processes_of}
use Rattle.proc_sched.proofs.Setting.{deadline-leaves}
use Rattle.proc_sched.proofs.node.Node.leave_deadlines.Goals as goal

pub returns-in-Some : goal.returns-in-Some
returns-in-Some c = record {
  is = refl;
  out = deadline-leaves c.args.self.now.clock (processes_of c.args.self.now.heap c.args.self.now.slots.items) c.args.number c.in-Some.deadline c.args.self.now.deadlines c.remove.new.self (sym c.in-Some.ensures) c.remove.ensures.updates.0;
}
