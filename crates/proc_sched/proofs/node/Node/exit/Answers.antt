use Rattle.std.proofs.Common.{◌≡◌, true, false, not, nat_eq, ◌&&◌, codes, arith, ap}
use Rattle.ej_world.specs.Delivery.{is_atom}
use Rattle.term_heap.specs.View.{term_of}
use Rattle.proc_sched.proofs.DeliveryLaw.{is-kill, not-kill, is-normal, not-normal, not-other, trapping-told, exits-kill, exits-trap, exits-drop, exits-hit}
use Rattle.proc_sched.proofs.NodeLaw.{then-ok}
use Rattle.proc_sched.proofs.SlotLaw.{live-within}
use Rattle.proc_sched.proofs.node.Node.exit.Goals as goal
use Rattle.proc_sched.proofs.node.Node.exit.Goals.{else-by_exit-via-then-by_exit+else-is_atom, else-by_exit-via-else-by_exit, else-from-to-via-then-from-to+else-is_atom-2, else-from-to-via-else-from-to}

pub returns-then-is_atom : goal.returns-then-is_atom
returns-then-is_atom c =
    let t = term_of c.args.self.now.heap c.args.reason in
    then-ok c.kill.result (exits-kill c.args.self.now c.kill.new.self c.args.from c.args.to c.args.by_exit t (is-kill c.args.by_exit c.is_atom.result t c.if-by_exit.true c.is_atom.ensures c.if-is_atom.true)) c.kill.ensures

pub index-requires : goal.index-requires
index-requires c = omega (arith, c.args.self.now.slots.ok.0, live-within c.args.self.now c.args.to c.requires.live)

pub returns-then-index : goal.returns-then-index
returns-then-index c =
    let t = term_of c.args.self.now.heap c.args.reason in
    let kill : (c.args.by_exit && is_atom (codes "kill") t) ≡ false =
    elim c.else-by_exit.branch [
      | else-by_exit-via-then-by_exit+else-is_atom w ↦ not-kill c.args.by_exit w.is_atom.result t w.is_atom.ensures w.if-is_atom.false
      | else-by_exit-via-else-by_exit w ↦ ap (λ b. b && is_atom (codes "kill") t) w.if-by_exit.false
    ] in
    then-ok c.trap.result (exits-trap c.args.self.now c.trap.new.self c.args.from c.args.to c.args.by_exit t kill
    (λ q. trapping-told c.args.self.now c.args.to c.index.result.now true q c.requires.live c.index.ensures c.if-index.true)) c.trap.ensures

pub returns-then-is_atom-2 : goal.returns-then-is_atom-2
returns-then-is_atom-2 c =
    let t = term_of c.args.self.now.heap c.args.reason in
    let kill : (c.args.by_exit && is_atom (codes "kill") t) ≡ false =
    elim c.else-by_exit.branch [
      | else-by_exit-via-then-by_exit+else-is_atom w ↦ not-kill c.args.by_exit w.is_atom.result t w.is_atom.ensures w.if-is_atom.false
      | else-by_exit-via-else-by_exit w ↦ ap (λ b. b && is_atom (codes "kill") t) w.if-by_exit.false
    ] in
    then-ok c.show.result (exits-drop c.args.self.now c.show.new.self c.args.from c.args.to c.args.by_exit t kill
    (λ q. trapping-told c.args.self.now c.args.to c.index.result.now false q c.requires.live c.index.ensures c.if-index.false)
    (is-normal c.args.from c.args.to c.is_atom-then-from-to.result t c.if-from-to.true c.is_atom-then-from-to.ensures c.if-is_atom-2.true)) c.show.ensures

pub returns : goal.returns
returns c =
    let t = term_of c.args.self.now.heap c.args.reason in
    let kill : (c.args.by_exit && is_atom (codes "kill") t) ≡ false =
    elim c.else-by_exit.branch [
      | else-by_exit-via-then-by_exit+else-is_atom w ↦ not-kill c.args.by_exit w.is_atom.result t w.is_atom.ensures w.if-is_atom.false
      | else-by_exit-via-else-by_exit w ↦ ap (λ b. b && is_atom (codes "kill") t) w.if-by_exit.false
    ] in
    let normal : (is_atom (codes "normal") t && not (nat_eq c.args.from c.args.to)) ≡ false =
    elim c.else-from-to.branch [
      | else-from-to-via-then-from-to+else-is_atom-2 w ↦ not-normal c.args.from c.args.to w.is_atom-then-from-to.result t w.is_atom-then-from-to.ensures w.if-is_atom-2.false
      | else-from-to-via-else-from-to w ↦ not-other c.args.from c.args.to t w.if-from-to.false
    ] in
    then-ok c.hit.result (exits-hit c.args.self.now c.hit.new.self c.args.from c.args.to c.args.by_exit t kill
    (λ q. trapping-told c.args.self.now c.args.to c.index.result.now false q c.requires.live c.index.ensures c.if-index.false) normal) c.hit.ensures
