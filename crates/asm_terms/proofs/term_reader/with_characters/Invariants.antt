use Rattle.std.proofs.Common.{◌≡◌, ◌++◌, take}
use Rattle.asm_terms.specs.Grammar.{characters_as_terms}
use Rattle.asm_terms.proofs.term_reader.with_characters.Given as goal

abbrev pub invariant-loop-character : goal.invariant-loop-character
invariant-loop-character l = l.elements ≡ l.initial.elements ++ characters_as_terms (take l.character-index l.characters)
