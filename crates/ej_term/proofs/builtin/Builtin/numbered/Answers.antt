use Rattle.std.proofs.Common.{◌≡◌, subst}
use Rattle.ej_term.specs.BuiltinNumbers.{builtin_numbered}
use Rattle.ej_term.proofs.Numbered.{builtin-at}
use Rattle.ej_term.proofs.builtin.Builtin.numbered.Goals as goal

pub returns : goal.returns
returns c =
    subst (λ n. c.at.result ≡ builtin_numbered n) c.from.ensures
    (builtin-at c.from.result c.in_ok-place.place c.at.result c.in_ok-place.ensures.0 c.in_ok-place.ensures.1 c.at.ensures)
