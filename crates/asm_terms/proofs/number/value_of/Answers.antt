use Rattle.asm_terms.proofs.DigitLemmas.{value_read}
use Rattle.asm_terms.proofs.number.value_of.Goals as goal

pub returns : goal.returns
returns c = rw c.ok.ensures.value (value_read c.args.base c.args.digits.now _ c.from_str_radix.result c.requires.to_letters c.requires.digits c.as_str.ensures.bytes c.from_str_radix.ensures.value)
