use Rattle.std.proofs.Common.{◌≡◌, rules, length, ap, ◌∙◌}
use Rattle.std.specs.Str.{chars}
use Rattle.std.proofs.lemmas.Str.{chars_from_encodes}
use Rattle.asm_terms.proofs.spelling.Spelling.len.Goals as goal

pub returns : goal.returns
returns c =
    let counted : c.count.result ≡ length (chars c.as_str.result.now) = search (rules, chars_from_encodes) in
    counted ∙ ap (λ bs. length (chars bs)) c.as_str.ensures.value ∙ ap length c.self.view_is
