use Rattle.std.proofs.Common.{length, Some, ap, ◌∙◌}
use Rattle.beam_code.specs.SlotForm.{is_size}
use Rattle.beam_code.proofs.SlotStates.{slots-left, trimmed-fits, trimmed-formed}
use Rattle.beam_code.proofs.slot_state.SlotState.drop_slots.Goals as goal

pub invariant_of-self : goal.invariant_of-self
invariant_of-self c =
    let old = c.args.self.now in
    record {
      xs_few = old.xs_few;
      xs_end = old.xs_end;
      xs_kinds = old.xs_kinds;
      ys_fit = ap (λ k. is_size (Some k) (length c.behead.new.kinds)) (slots-left old.frame c.in-Some.size c.args.dropped c.args.count c.in-Some.is c.requires) ∙ trimmed-fits old c.args.dropped c.args.count c.behead.new.kinds c.requires c.behead.ensures;
      ys_kinds = trimmed-formed old c.args.dropped c.args.count c.behead.new.kinds c.requires c.behead.ensures;
    }
