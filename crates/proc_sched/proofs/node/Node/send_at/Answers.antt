use Rattle.proc_sched.proofs.NodeLaw.{sends-at, held-at, then-ok}
use Rattle.proc_sched.proofs.node.Node.send_at.Goals as goal

pub returns-in-Some : goal.returns-in-Some
returns-in-Some c =
    then-ok c.put.result (sends-at c.args.self.now c.put.new.self c.args.at c.index.result.now c.in-Some.pair c.in-Some.signal c.requires.is_node c.requires.at c.index.ensures
    (c.in-Some.ensures c.args.self.now.heap (held-at c.args.self.now c.args.at c.index.result.now c.requires.is_node c.requires.at c.index.ensures))) c.put.ensures
