use Rattle.proc_sched.proofs.NodeLaw.{send-does, then-ok}
use Rattle.proc_sched.proofs.node.Node.send.Goals as goal

pub returns-in_ok-put-in-Some : goal.returns-in_ok-put-in-Some
returns-in_ok-put-in-Some c =
    then-ok c.show.result (λ does. send-does c.args.self.now c.put.new.self c.show.new.self c.args.event c.in-Some.pair c.in-Some.signal (c.in-Some.ensures c.args.self.now.heap c.requires.held) c.in_ok-put-in-Some.ensures does) c.show.ensures
