use Rattle.proc_sched.proofs.system.System.advance_to_deadline.Goals as goal

pub set_clock-requires-clause-later : goal.set_clock-requires-clause-later
set_clock-requires-clause-later g c = c.in-Some.ensures.later
