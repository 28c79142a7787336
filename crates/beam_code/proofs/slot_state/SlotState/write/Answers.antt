use Rattle.std.proofs.Common.{◌≡◌, ◌≤◌, length, true, false, refl, ap, ◌∙◌, arith}
use Rattle.std.specs.List.{list_all}
use Rattle.beam_code.specs.SlotForm.{ends_undefined, is_kind}
use Rattle.beam_code.specs.Kinds.{put_at}
use Rattle.beam_code.specs.Slots.{state_of}
use Rattle.beam_code.proofs.SlotStates.{either, on-ok, put-few, put-end, put-formed, set-formed, set-fits, wrote-x, register-there}
use Rattle.beam_code.proofs.slot_state.SlotState.write.Goals as goal

pub invariant_of-self : goal.invariant_of-self
invariant_of-self c =
    let old = c.args.self.now in
    let put = put_at old.xs c.in-X.n c.args.kind in
    record {
      xs_few = either c.put.result (λ ks. length ks ≤ 1024) c.put.new.kinds put c.put.ensures.ok c.put.ensures.err (put-few old.xs c.in-X.n c.args.kind old.xs_few (register-there c.args.register c.in-X.n (state_of old) c.in-X.is c.requires.there)) (omega arith);
      xs_end = either c.put.result (λ ks. ends_undefined ks ≡ false) c.put.new.kinds put c.put.ensures.ok c.put.ensures.err (put-end old.xs c.in-X.n c.args.kind c.requires.defined old.xs_end) refl;
      xs_kinds = either c.put.result (λ ks. list_all is_kind ks ≡ true) c.put.new.kinds put c.put.ensures.ok c.put.ensures.err (put-formed old.xs c.in-X.n c.args.kind c.requires.formed old.xs_kinds) refl;
      ys_fit = old.ys_fit;
      ys_kinds = old.ys_kinds;
    }

pub invariant_of-self-in-Y : goal.invariant_of-self-in-Y
invariant_of-self-in-Y c =
    let old = c.args.self.now in
    record {
      xs_few = old.xs_few;
      xs_end = old.xs_end;
      xs_kinds = old.xs_kinds;
      ys_fit = set-fits old c.set.new.self c.in-Y.n c.args.kind c.set.ensures;
      ys_kinds = ap (list_all is_kind) c.set.ensures ∙ set-formed old.ys c.in-Y.n c.args.kind c.requires.formed old.ys_kinds;
    }

pub returns-in-X : goal.returns-in-X
returns-in-X c = on-ok c.put.result _ _ (wrote-x c.args.self.now c.put.new.kinds c.args.register c.in-X.n c.args.kind c.in-X.is c.requires.there) c.put.ensures.ok
