use Rattle.std.proofs.Common.{◌≡◌, map, drop}
use Rattle.erjang_compile.specs.Answers.{first_over}
use Rattle.erjang_compile.proofs.literals.over_in_keys.Given as goal

abbrev pub invariant-loop-key : goal.invariant-loop-key
invariant-loop-key l = first_over (map (λ g. g.0) (drop l.key-index l.gets)) ≡ first_over (map (λ g. g.0) l.gets)
