use Rattle.std.proofs.Common.{◌≡◌, drop}
use Rattle.erjang_compile.specs.Answers.{first_over}
use Rattle.erjang_compile.proofs.literals.over_in_sources.Given as goal

abbrev pub invariant-loop-source : goal.invariant-loop-source
invariant-loop-source l = first_over (drop l.source-index l.sources) ≡ first_over l.sources
