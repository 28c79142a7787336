use Rattle.std.proofs.Common.{encode_utf8_all, sym, ap, ◌∙◌}
use Rattle.std.specs.Str.{chars}
use Rattle.ej_term.proofs.TextLemmas.{encode-chars}
use Rattle.asm_terms.proofs.spelling.Spelling.as_str.Goals as goal

pub returns-clause-bytes : goal.returns-clause-bytes
returns-clause-bytes c = sym (encode-chars _ c.as_str.utf8) ∙ ap encode_utf8_all (ap chars c.as_str.ensures.value ∙ c.self.view_is)
