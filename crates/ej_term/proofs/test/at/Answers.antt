use Rattle.ej_term.proofs.Numbered.{past_tests}
use Rattle.ej_term.proofs.test.at.Goals as goal

pub returns-else-place-lt25 : goal.returns-else-place-lt25
returns-else-place-lt25 c = past_tests c.args.place c.if-place-lt25.false
