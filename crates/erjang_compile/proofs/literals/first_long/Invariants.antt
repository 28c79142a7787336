use Rattle.std.proofs.Common.{◌≡◌, map, drop}
use Rattle.std.specs.List.{find}
use Rattle.beam_code.specs.Code.{function_code}
use Rattle.erjang_compile.specs.Accepted.{is_long, literals_in}
use Rattle.erjang_compile.proofs.literals.first_long.Given as goal

abbrev pub invariant-loop-func : goal.invariant-loop-func
invariant-loop-func l =
    find is_long (literals_in l.func (map function_code (drop l.func l.functions))) ≡ find is_long (literals_in 0 (map function_code l.functions))
