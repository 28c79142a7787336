use Rattle.std.proofs.Common.{◌∙◌}
use Rattle.std.proofs.lemmas.Str.{IsUtf8-string_bytes}
use Rattle.ej_term.proofs.TextLemmas.{same_text}
use Rattle.ej_term.proofs.text.TextPartialEq.eq.Goals as goal

pub returns : goal.returns
returns c =
    let texts = same_text _ _ (IsUtf8-string_bytes c.self.inside.inner) (IsUtf8-string_bytes c.other.inside.inner) in
    rw (← c.self.view_is, ← c.other.view_is) (c.eq.ensures ∙ texts)
