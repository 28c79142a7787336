use Rattle.std.proofs.Common.{ap, ◌∙◌, codes, nat_eq}
use Rattle.std.specs.Str.{chars}
use Rattle.std.specs.Cmp.Lexicographic.{pointwise}
use Rattle.ej_term.proofs.TextLemmas.{same_text}
use Rattle.asm_terms.proofs.TextLemmas.{fun_characters, fun_utf8}
use Rattle.asm_terms.proofs.name.is_fun.Goals as goal

pub returns : goal.returns
returns c =
    c.eq.ensures ∙ same_text c.as_str.result.now (codes "fun") c.as_str.utf8 fun_utf8
    ∙ ap (λ x. pointwise nat_eq x (chars (codes "fun"))) c.as_str.ensures.characters ∙ ap (λ x. pointwise nat_eq c.args.spelled.now x) fun_characters
