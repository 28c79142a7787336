use Rattle.std.proofs.Common.{sym, ap, ◌∙◌}
use Rattle.std.specs.Str.{chars}
use Rattle.asm_terms.proofs.CharactersLemmas.{characters-utf8, characters-latin_1}
use Rattle.asm_terms.proofs.characters.utf8_text.Goals as goal

pub returns-in-Ok : goal.returns-in-Ok
returns-in-Ok c = ap chars c.in-Ok.ensures.cases.0 ∙ sym (characters-utf8 c.args.bytes.now c.in-Ok.ensures.cases.1)

pub returns-in-Err : goal.returns-in-Err
returns-in-Err c = characters-latin_1 c.args.bytes.now c.in-Err.ensures.cases.0
