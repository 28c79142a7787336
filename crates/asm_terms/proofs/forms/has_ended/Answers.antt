use Rattle.std.proofs.Common.{◌∙◌, ap}
use Rattle.asm_terms.specs.Blanks.{skip_blank}
use Rattle.asm_terms.proofs.SplitLaw.{ended}
use Rattle.asm_terms.proofs.forms.has_ended.Goals as goal

pub returns : goal.returns
returns c = ended c.args.reader.now c.skip_blank.new.reader c.is_at_end.result (c.skip_blank.ensures ∙ ap skip_blank c.ahead-ahead.ensures) c.is_at_end.ensures
