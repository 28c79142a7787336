use Rattle.std.proofs.Common.{ap, ◌∙◌}
use Rattle.ej_term.specs.Atoms.{is_plain}
use Rattle.term_text.proofs.PlainText.{plain_text}
use Rattle.term_text.proofs.plain.is_plain.Goals as goal

pub returns : goal.returns
returns c = c.has_plain_bytes.ensures ∙ ap is_plain c.as_bytes.ensures.value ∙ plain_text c.args.text.now c.utf8.text
