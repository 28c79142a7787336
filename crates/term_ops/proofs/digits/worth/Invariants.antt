use Rattle.std.proofs.Common.{◌≡◌, ◌-◌, ◌^◌, ◌<◌, drop, true, min}
use Rattle.std.specs.List.{list_all}
use Rattle.ej_term.specs.Atoms.{is_between}
use Rattle.ej_term.specs.Digits as spec
use Rattle.term_ops.proofs.digits.worth.Given as goal

abbrev pub invariant-loop-digit : goal.invariant-loop-digit
invariant-loop-digit l = (l.worth < 2 ^ 64) × (list_all (is_between 48 57) (drop l.digit-index l.digits) ≡ true)
    × (min (spec.worth_onto l.worth (drop l.digit-index l.digits)) (2 ^ 64 - 1) ≡ min (spec.worth_onto 0 l.digits) (2 ^ 64 - 1))
