use Rattle.asm_terms.proofs.DigitLemmas.{is_integer}
use Rattle.asm_terms.proofs.number.number.Goals as goal

pub integer-requires : goal.integer-requires
integer-requires c = is_integer c.args.spelled.now c.args.reader.now _ c.requires.minus c.requires.digit c.in_ok-push_digits.ensures.spelled
