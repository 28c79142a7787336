use Rattle.std.proofs.Common.{[], sym, subst}
use Rattle.beam_code.specs.ConstantsSeen.{behind_first, more_seen}
use Rattle.slot_kinds.specs.Named.{Gains, values}
use Rattle.slot_kinds.proofs.ValuesLaw.{gains-then, values-behind}
use Rattle.slot_kinds.proofs.values.add_sources.Goals as goal

pub returns : goal.returns
returns c =
    let s = c.args.sources in
    subst (Gains c.args.seen.now.keys c.add_more.new.seen.keys) (sym (values-behind s.first (more_seen s.rest)))
    (gains-then c.args.seen.now.keys c.add_first.new.seen.keys c.add_more.new.seen.keys (values (behind_first s.first [])) (values (more_seen s.rest)) c.in_ok-add_first.ensures c.in_ok-add_more.ensures)
