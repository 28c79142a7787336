use Rattle.beam_code.specs.SameSource.{same_source}
use Rattle.beam_code.specs.SameSourceLaws.{source_means, source_itself}
use Rattle.slot_kinds.proofs.Different.{inserted}
use Rattle.slot_kinds.proofs.values.add_value.Goals as goal

pub returns : goal.returns
returns c = inserted same_source source_means source_itself c.args.seen.now.keys c.insert.new.self.keys _ c.in_ok-insert.ensures.keys
