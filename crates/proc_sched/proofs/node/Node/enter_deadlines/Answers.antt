use Rattle.std.proofs.Common.{refl, sym}
use Rattle.proc_sched.specs.Stands.{processes_of}
use Rattle.proc_sched.proofs.Setting.{deadline-enters}
use Rattle.proc_sched.proofs.node.Node.enter_deadlines.Goals as goal

pub returns-in_ok-insert : goal.returns-in_ok-insert
returns-in_ok-insert c = record {
  is = refl;
  in' = deadline-enters c.args.self.now.clock (processes_of c.args.self.now.heap c.args.self.now.slots.items) c.args.number c.in-Some.deadline c.args.self.now.deadlines c.insert.new.self (sym c.in-Some.ensures) c.in_ok-insert.ensures.updates.0;
}
