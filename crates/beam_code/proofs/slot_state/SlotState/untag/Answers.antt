use Rattle.std.proofs.Common.{refl, ap, ◌∙◌}
use Rattle.std.specs.List.{list_all}
use Rattle.beam_code.specs.declared.kind.Kind.TheVariants.{Undefined}
use Rattle.beam_code.specs.SlotForm.{is_kind}
use Rattle.beam_code.proofs.SlotStates.{set-formed, set-fits}
use Rattle.beam_code.proofs.slot_state.SlotState.untag.Goals as goal

pub invariant_of-self : goal.invariant_of-self
invariant_of-self c =
    let old = c.args.self.now in
    record {
      xs_few = old.xs_few;
      xs_end = old.xs_end;
      xs_kinds = old.xs_kinds;
      ys_fit = set-fits old c.set.new.self c.args.slot Undefined c.set.ensures;
      ys_kinds = ap (list_all is_kind) c.set.ensures ∙ set-formed old.ys c.args.slot Undefined refl old.ys_kinds;
    }
