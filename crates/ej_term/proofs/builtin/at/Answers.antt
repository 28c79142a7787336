use Rattle.ej_term.proofs.Numbered.{past_builtins}
use Rattle.ej_term.proofs.builtin.at.Goals as goal

pub returns-else-place-lt90 : goal.returns-else-place-lt90
returns-else-place-lt90 c = past_builtins c.args.place c.if-place-lt90.false
