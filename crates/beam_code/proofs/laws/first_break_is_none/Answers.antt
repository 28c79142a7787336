use Rattle.beam_code.proofs.FirstBreak.{kept, unbroken}
use Rattle.beam_code.proofs.laws.first_break_is_none.Goals as goal

pub returns : goal.returns
returns c = λ m. (kept m, unbroken m)
