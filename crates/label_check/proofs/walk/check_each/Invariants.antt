use Rattle.std.proofs.Common.{◌≡◌, nat_eq, [], drop, map}
use Rattle.indexmap.specs.IndexMap.{get}
use Rattle.beam_code.specs.Code.{function_code}
use Rattle.beam_code.specs.Labels as spec
use Rattle.label_check.proofs.walk.check_each.Given as goal

abbrev pub invariant-loop-func : goal.invariant-loop-func
invariant-loop-func l =
    spec.break_from l.owner (get nat_eq l.entries) l.func l.before.keys (map function_code (drop l.func l.functions))
    ≡ spec.break_from l.owner (get nat_eq l.entries) 0 [] (map function_code l.functions)
