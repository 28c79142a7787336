use Rattle.std.specs.List.{AllWithin}
use Rattle.beam_code.specs.Code.{module_code}
use Rattle.erjang_compile.specs.Accepted.{FunctionFits}
use Rattle.erjang_compile.proofs.sizes.first_heavy.Given as goal

abbrev pub invariant-loop-func : goal.invariant-loop-func
invariant-loop-func l = AllWithin FunctionFits (module_code l.«module»).functions 0 l.func
