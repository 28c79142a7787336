use Rattle.std.proofs.Common.{◌≡◌, map, drop}
use Rattle.erjang_compile.specs.Answers.{first_over}
use Rattle.erjang_compile.proofs.literals.over_in_cases.Given as goal

abbrev pub invariant-loop-case : goal.invariant-loop-case
invariant-loop-case l = first_over (map (λ c. c.0) (drop l.case-index l.cases)) ≡ first_over (map (λ c. c.0) l.cases)
