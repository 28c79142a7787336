use Rattle.beam_code.proofs.SlotStates.{undefined-all-formed, undefined-fits}
use Rattle.beam_code.proofs.slot_state.SlotState.enframe.Goals as goal

pub invariant_of-self : goal.invariant_of-self
invariant_of-self c =
    let old = c.args.self.now in
    record {
      xs_few = old.xs_few;
      xs_end = old.xs_end;
      xs_kinds = old.xs_kinds;
      ys_fit = undefined-fits c.in_ok-ys.ys c.args.size c.in_ok-ys.ensures;
      ys_kinds = undefined-all-formed c.in_ok-ys.ys c.args.size c.in_ok-ys.ensures;
    }
