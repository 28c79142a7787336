use Rattle.proc_sched.proofs.LinksLaw.{agree-next, agree-done}
use Rattle.proc_sched.proofs.NodeLaw.{then-ok}
use Rattle.proc_sched.proofs.node.Node.agree.Goals as goal

pub add_links-requires : goal.add_links-requires
add_links-requires c = agree-next c.args.me c.args.before.now c.args.self.now c.drop_links.new.self c.requires c.drop_links.ensures

pub returns : goal.returns
returns c = then-ok c.add_links.result (agree-done c.args.me c.args.before.now c.args.self.now c.drop_links.new.self c.add_links.new.self c.drop_links.ensures) c.add_links.ensures
