use Rattle.std.proofs.Common.{◌∙◌, arith}
use Rattle.proc_sched.specs.Systems.{kept}
use Rattle.proc_sched.proofs.NodeLaw.{then-ok}
use Rattle.proc_sched.proofs.RunLaw.{may-spawn, own-links, may-agree, c-node, from-within, may-finish, f-node, becomes-run}
use Rattle.proc_sched.proofs.system.System.run.Goals as goal

pub make_spawned-requires : goal.make_spawned-requires
make_spawned-requires g c =
    may-spawn g.P.Process.holds g.P.Process.means (g.P.Process.is_state c.args.code.now) g.met.P.Process.stays (g.P.Process.code c.args.code.now) (g.met.P.Process.lawful c.args.code.now)
    (kept c.args.self.now.node c.args.self.now.states.items) c.args.number c.args.transfers c.requires.is c.requires.ready c.requires.transfers
    c.len-first.result (omega (arith, c.len-first.ensures, c.args.self.now.node.events.ok)) (kept c.turn.new.self.node c.turn.new.self.states.items) c.in_ok-outcome.outcome c.in_ok-outcome.ensures

pub agree-requires : goal.agree-requires
agree-requires g c =
    may-agree g.P.Process.holds g.P.Process.means (g.P.Process.is_state c.args.code.now) g.met.P.Process.stays (g.P.Process.code c.args.code.now) (g.met.P.Process.lawful c.args.code.now)
    (kept c.args.self.now.node c.args.self.now.states.items) c.args.number c.args.transfers c.requires.is c.requires.ready c.requires.transfers
    c.len-first.result (omega (arith, c.len-first.ensures, c.args.self.now.node.events.ok)) (kept c.turn.new.self.node c.turn.new.self.states.items) c.in_ok-outcome.outcome c.in_ok-outcome.ensures
    (kept c.make_spawned.new.self.node c.make_spawned.new.self.states.items) c.in_ok-make_spawned.ensures
    c.as_slice.result.now (c.as_slice.ensures.value ∙ (c.in_ok-before.ensures.items ∙ (c.as_slice-links.ensures.value ∙ own-links g.P.Process.holds g.P.Process.means (g.P.Process.is_state c.args.code.now) g.met.P.Process.stays (g.P.Process.code c.args.code.now) (g.met.P.Process.lawful c.args.code.now)
    (kept c.args.self.now.node c.args.self.now.states.items) c.args.number c.args.transfers c.requires.is c.requires.ready c.requires.transfers c.index.result.now c.index.ensures)))

pub send_from-requires-clause-is_node : goal.send_from-requires-clause-is_node
send_from-requires-clause-is_node g c =
    c-node g.P.Process.holds g.P.Process.means (g.P.Process.is_state c.args.code.now) g.met.P.Process.stays (g.P.Process.code c.args.code.now) (g.met.P.Process.lawful c.args.code.now)
    (kept c.args.self.now.node c.args.self.now.states.items) c.args.number c.args.transfers c.requires.is c.requires.ready c.requires.transfers
    c.len-first.result (omega (arith, c.len-first.ensures, c.args.self.now.node.events.ok)) (kept c.turn.new.self.node c.turn.new.self.states.items) c.in_ok-outcome.outcome c.in_ok-outcome.ensures
    (kept c.make_spawned.new.self.node c.make_spawned.new.self.states.items) c.in_ok-make_spawned.ensures
    c.as_slice.result.now (c.as_slice.ensures.value ∙ (c.in_ok-before.ensures.items ∙ (c.as_slice-links.ensures.value ∙ own-links g.P.Process.holds g.P.Process.means (g.P.Process.is_state c.args.code.now) g.met.P.Process.stays (g.P.Process.code c.args.code.now) (g.met.P.Process.lawful c.args.code.now)
    (kept c.args.self.now.node c.args.self.now.states.items) c.args.number c.args.transfers c.requires.is c.requires.ready c.requires.transfers c.index.result.now c.index.ensures))) c.agree.new.self c.in_ok-agree.ensures

pub send_from-requires-clause-first : goal.send_from-requires-clause-first
send_from-requires-clause-first g c =
    from-within g.P.Process.holds g.P.Process.means (g.P.Process.is_state c.args.code.now) g.met.P.Process.stays (g.P.Process.code c.args.code.now) (g.met.P.Process.lawful c.args.code.now)
    (kept c.args.self.now.node c.args.self.now.states.items) c.args.number c.args.transfers c.requires.is c.requires.ready c.requires.transfers
    c.len-first.result (omega (arith, c.len-first.ensures, c.args.self.now.node.events.ok)) (kept c.turn.new.self.node c.turn.new.self.states.items) c.in_ok-outcome.outcome c.in_ok-outcome.ensures
    (kept c.make_spawned.new.self.node c.make_spawned.new.self.states.items) c.in_ok-make_spawned.ensures
    c.as_slice.result.now (c.as_slice.ensures.value ∙ (c.in_ok-before.ensures.items ∙ (c.as_slice-links.ensures.value ∙ own-links g.P.Process.holds g.P.Process.means (g.P.Process.is_state c.args.code.now) g.met.P.Process.stays (g.P.Process.code c.args.code.now) (g.met.P.Process.lawful c.args.code.now)
    (kept c.args.self.now.node c.args.self.now.states.items) c.args.number c.args.transfers c.requires.is c.requires.ready c.requires.transfers c.index.result.now c.index.ensures))) c.agree.new.self c.in_ok-agree.ensures

pub finish-requires-clause-may : goal.finish-requires-clause-may
finish-requires-clause-may g c =
    may-finish g.P.Process.holds g.P.Process.means (g.P.Process.is_state c.args.code.now) g.met.P.Process.stays (g.P.Process.code c.args.code.now) (g.met.P.Process.lawful c.args.code.now)
    (kept c.args.self.now.node c.args.self.now.states.items) c.args.number c.args.transfers c.requires.is c.requires.ready c.requires.transfers
    c.len-first.result (omega (arith, c.len-first.ensures, c.args.self.now.node.events.ok)) (kept c.turn.new.self.node c.turn.new.self.states.items) c.in_ok-outcome.outcome c.in_ok-outcome.ensures
    (kept c.make_spawned.new.self.node c.make_spawned.new.self.states.items) c.in_ok-make_spawned.ensures
    c.as_slice.result.now (c.as_slice.ensures.value ∙ (c.in_ok-before.ensures.items ∙ (c.as_slice-links.ensures.value ∙ own-links g.P.Process.holds g.P.Process.means (g.P.Process.is_state c.args.code.now) g.met.P.Process.stays (g.P.Process.code c.args.code.now) (g.met.P.Process.lawful c.args.code.now)
    (kept c.args.self.now.node c.args.self.now.states.items) c.args.number c.args.transfers c.requires.is c.requires.ready c.requires.transfers c.index.result.now c.index.ensures))) c.agree.new.self c.in_ok-agree.ensures
    c.send_from.new.self c.in_ok-send_from.ensures

pub show-requires-clause-is_node : goal.show-requires-clause-is_node
show-requires-clause-is_node g c =
    f-node g.P.Process.holds g.P.Process.means (g.P.Process.is_state c.args.code.now) g.met.P.Process.stays (g.P.Process.code c.args.code.now) (g.met.P.Process.lawful c.args.code.now)
    (kept c.args.self.now.node c.args.self.now.states.items) c.args.number c.args.transfers c.requires.is c.requires.ready c.requires.transfers
    c.len-first.result (omega (arith, c.len-first.ensures, c.args.self.now.node.events.ok)) (kept c.turn.new.self.node c.turn.new.self.states.items) c.in_ok-outcome.outcome c.in_ok-outcome.ensures
    (kept c.make_spawned.new.self.node c.make_spawned.new.self.states.items) c.in_ok-make_spawned.ensures
    c.as_slice.result.now (c.as_slice.ensures.value ∙ (c.in_ok-before.ensures.items ∙ (c.as_slice-links.ensures.value ∙ own-links g.P.Process.holds g.P.Process.means (g.P.Process.is_state c.args.code.now) g.met.P.Process.stays (g.P.Process.code c.args.code.now) (g.met.P.Process.lawful c.args.code.now)
    (kept c.args.self.now.node c.args.self.now.states.items) c.args.number c.args.transfers c.requires.is c.requires.ready c.requires.transfers c.index.result.now c.index.ensures))) c.agree.new.self c.in_ok-agree.ensures
    c.send_from.new.self c.in_ok-send_from.ensures
    (kept c.finish.new.self.node c.finish.new.self.states.items) c.in_ok-depth.depth c.in_ok-depth.ensures

pub returns : goal.returns
returns g c =
    then-ok c.show.result
    (becomes-run g.P.Process.holds g.P.Process.means (g.P.Process.is_state c.args.code.now) g.met.P.Process.stays (g.P.Process.code c.args.code.now) (g.met.P.Process.lawful c.args.code.now)
    (kept c.args.self.now.node c.args.self.now.states.items) c.args.number c.args.transfers c.requires.is c.requires.ready c.requires.transfers
    c.len-first.result (omega (arith, c.len-first.ensures, c.args.self.now.node.events.ok)) (kept c.turn.new.self.node c.turn.new.self.states.items) c.in_ok-outcome.outcome c.in_ok-outcome.ensures
    (kept c.make_spawned.new.self.node c.make_spawned.new.self.states.items) c.in_ok-make_spawned.ensures
    c.as_slice.result.now (c.as_slice.ensures.value ∙ (c.in_ok-before.ensures.items ∙ (c.as_slice-links.ensures.value ∙ own-links g.P.Process.holds g.P.Process.means (g.P.Process.is_state c.args.code.now) g.met.P.Process.stays (g.P.Process.code c.args.code.now) (g.met.P.Process.lawful c.args.code.now)
    (kept c.args.self.now.node c.args.self.now.states.items) c.args.number c.args.transfers c.requires.is c.requires.ready c.requires.transfers c.index.result.now c.index.ensures))) c.agree.new.self c.in_ok-agree.ensures
    c.send_from.new.self c.in_ok-send_from.ensures
    (kept c.finish.new.self.node c.finish.new.self.states.items) c.in_ok-depth.depth c.in_ok-depth.ensures c.show.new.self) c.show.ensures
