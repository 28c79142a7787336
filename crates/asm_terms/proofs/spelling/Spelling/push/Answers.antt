use Rattle.std.proofs.Common.{ap, ◌∙◌, ◌++◌, ◌∷◌, []}
use Rattle.std.proofs.lemmas.Str.{IsUtf8-string_bytes}
use Rattle.asm_terms.proofs.TextLemmas.{chars-push}
use Rattle.asm_terms.proofs.spelling.Spelling.push.Goals as goal

pub returns : goal.returns
returns c = chars-push _ _ c.args.c c.ranges.c.0 (IsUtf8-string_bytes c.self.inside.text) c.in_ok-push.ensures.bytes ∙ ap (λ cs. cs ++ c.args.c ∷ []) c.self.view_is
