use Rattle.std.proofs.lemmas.Str.{is_utf8-from_IsUtf8}
use Rattle.std.specs.Str.Iter.{chars_rest}
use Rattle.asm_terms.proofs.TextLemmas.{next_character}
use Rattle.asm_terms.proofs.reader.Reader.next.Goals as goal

pub invariant_of-self : goal.invariant_of-self
invariant_of-self c = is_utf8-from_IsUtf8 _ c.as_str-self-inside.utf8

pub returns : goal.returns
returns c = rw (← c.self.view_is) (next_character chars_rest c.chars-characters.result c.next-next.new.self c.self.inside.rest.now c.as_str-self-inside.result.now c.next-next.result
    c.chars-characters.ensures.rest c.as_str-self-inside.ensures c.self.invariant c.next-next.ensures.steps.0)
