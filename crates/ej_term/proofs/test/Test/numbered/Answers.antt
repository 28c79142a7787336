use Rattle.std.proofs.Common.{◌≡◌, subst}
use Rattle.ej_term.specs.TestNumbers.{test_numbered}
use Rattle.ej_term.proofs.Numbered.{test-at}
use Rattle.ej_term.proofs.test.Test.numbered.Goals as goal

pub returns : goal.returns
returns c =
    subst (λ n. c.at.result ≡ test_numbered n) c.from.ensures
    (test-at c.from.result c.in_ok-place.place c.at.result c.in_ok-place.ensures.0 c.in_ok-place.ensures.1 c.at.ensures)
