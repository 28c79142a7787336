use Rattle.beam_code.proofs.SlotStates.{live-few, live-formed, live-listed}
use Rattle.beam_code.proofs.slot_state.SlotState.keep_live.Goals as goal

pub invariant_of-self : goal.invariant_of-self
invariant_of-self c = record {
  xs_few = live-few c.args.self.now.xs c.shorten.new.kinds c.trim.new.kinds c.args.count c.shorten.ensures c.trim.ensures.front c.args.self.now.xs_few;
  xs_end = c.trim.ensures.end;
  xs_kinds = live-formed c.args.self.now.xs c.shorten.new.kinds c.trim.new.kinds c.args.count c.shorten.ensures c.trim.ensures.front c.args.self.now.xs_kinds;
  ys_fit = c.args.self.now.ys_fit;
  ys_kinds = c.args.self.now.ys_kinds;
}

pub returns : goal.returns
returns c =
    let e = live-listed c.args.self.now.xs c.shorten.new.kinds c.trim.new.kinds c.args.count c.shorten.ensures c.trim.ensures.front c.trim.ensures.same in
    λ i. record { frame = c.args.self.now.frame; xs = e i; ys = λ n. Rattle.beam_code.specs.Slots.listed c.args.self.now.ys n }
