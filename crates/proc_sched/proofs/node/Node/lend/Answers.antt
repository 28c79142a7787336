use Rattle.std.proofs.Common.{ap, ◌∙◌, refl}
use Rattle.std.proofs.lemmas.List.{length-map, set-set}
use Rattle.proc_sched.specs.declared.slot.Slot.{Slot}
use Rattle.proc_sched.specs.Stands.{process_of}
use Rattle.proc_sched.proofs.TurnLaw.{slot-there}
use Rattle.proc_sched.proofs.node.Node.lend.Goals as goal

pub returns : goal.returns
returns c =
    let slots = c.args.self.now.slots.items in
    let slot = c.index_mut-slot.result.now in
    record {
      is = refl;
      others = set-set slots c.args.number _;
      slot = λ s at.
          let same = slot-there slots c.args.number slot s c.index_mut-slot.ensures.value at in
          record {
            mailbox = c.replace.ensures.value ∙ ap (λ (s : Slot). s.mailbox) same;
            links = c.replace-2.ensures.value ∙ ap (λ (s : Slot). s.links) same;
            trapping = ap (λ (s : Slot). s.trapping) same;
            timer = ap (λ (s : Slot). s.timer) same;
          };
      me = refl;
      next_pid = c.next_pid-next_pid.ensures ∙ length-map slots (process_of c.args.self.now.heap);
      next_ref = refl;
      clock = refl;
      live = c.replace-3.ensures.value;
      events = c.replace-4.ensures.value;
    }
