use Rattle.std.proofs.Common.{subst, arith}
use Rattle.std.proofs.lemmas.List.{length-set}
use Rattle.proc_sched.specs.Nodes.{Enters}
use Rattle.proc_sched.specs.declared.node.Node.{Node}
use Rattle.proc_sched.proofs.BehindLaw.{states-within, slots-within, lent-within, never-none, state-taken, may-turn, goes-behind}
use Rattle.proc_sched.proofs.system.System.turn.Goals as goal

pub index_mut-requires : goal.index_mut-requires
index_mut-requires g c =
    let within = states-within g.P.Process.holds g.P.Process.means (g.P.Process.is_state c.args.code.now) (g.P.Process.code c.args.code.now) c.args.self.now.node c.args.self.now.states.items c.args.number c.requires.is c.requires.ready in
    omega (arith, within, c.args.self.now.states.ok)

pub unreachable-requires : goal.unreachable-requires
unreachable-requires g c =
    never-none g.P.Process.holds g.P.Process.means (g.P.Process.is_state c.args.code.now) (g.P.Process.code c.args.code.now) c.args.self.now.node c.args.self.now.states.items c.args.number c.requires.is c.requires.ready
    _ _ c.index_mut.ensures.value c.take.ensures.value c.in_default.is

pub lend-view-requires : goal.lend-view-requires
lend-view-requires g c =
    slots-within g.P.Process.holds g.P.Process.means (g.P.Process.is_state c.args.code.now) (g.P.Process.code c.args.code.now) c.args.self.now.node c.args.self.now.states.items c.args.number c.requires.is c.requires.ready
    c.leave.new.self c.leave.ensures

pub turn-requires : goal.turn-requires
turn-requires g c =
    may-turn g.P.Process.holds g.P.Process.means (g.P.Process.is_state c.args.code.now) (g.P.Process.code c.args.code.now) c.args.self.now.node c.args.self.now.states.items c.args.number c.requires.is c.requires.ready
    c.leave.new.self c.lend-view.new.self c.args.transfers c.lend-view.result c.in-Some.state
    (state-taken g.P.Process.holds g.P.Process.means (g.P.Process.is_state c.args.code.now) (g.P.Process.code c.args.code.now) c.args.self.now.node c.args.self.now.states.items c.args.number c.requires.is c.requires.ready
    _ _ c.in-Some.state c.index_mut.ensures.value c.take.ensures.value c.in-Some.is)
    c.requires.transfers c.leave.ensures c.lend-view.ensures

pub take_back-requires : goal.take_back-requires
take_back-requires g c =
    lent-within g.P.Process.holds g.P.Process.means (g.P.Process.is_state c.args.code.now) (g.P.Process.code c.args.code.now) c.args.self.now.node c.args.self.now.states.items c.args.number c.requires.is c.requires.ready
    c.leave.new.self c.lend-view.new.self c.lend-view.result c.leave.ensures c.lend-view.ensures

pub keep-requires : goal.keep-requires
keep-requires g c =
    let within = states-within g.P.Process.holds g.P.Process.means (g.P.Process.is_state c.args.code.now) (g.P.Process.code c.args.code.now) c.args.self.now.node c.args.self.now.states.items c.args.number c.requires.is c.requires.ready in
    omega (arith, within, length-set c.args.self.now.states.items c.args.number c.take.new.self)

pub returns : goal.returns
returns g c =
    goes-behind g.P.Process.holds g.P.Process.means (g.P.Process.is_state c.args.code.now) (g.P.Process.code c.args.code.now) c.args.self.now.node c.args.self.now.states.items c.args.number c.requires.is c.requires.ready
    c.leave.new.self c.lend-view.new.self c.args.transfers c.lend-view.result c.in-Some.state
    (state-taken g.P.Process.holds g.P.Process.means (g.P.Process.is_state c.args.code.now) (g.P.Process.code c.args.code.now) c.args.self.now.node c.args.self.now.states.items c.args.number c.requires.is c.requires.ready
    _ _ c.in-Some.state c.index_mut.ensures.value c.take.ensures.value c.in-Some.is)
    c.requires.transfers g.met.P.Process.stays (g.met.P.Process.lawful c.args.code.now)
    c.take_back.new.self c.enter.new.self c.turn.new.heap c.turn.new.view c.turn.new.state c.in_ok-outcome.outcome c.take.new.self c.keep.new.self.states.items
    c.leave.ensures c.lend-view.ensures c.in_ok-outcome.ensures.keeps c.in_ok-outcome.ensures.turns c.take_back.ensures c.keep.ensures.states
    (subst (λ (n : Node). Enters c.args.number n c.enter.new.self) c.keep.ensures.node c.in_ok-enter.ensures)
